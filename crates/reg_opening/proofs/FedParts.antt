-- Parts of an office that are fed to an audit one after the other.
use Rattle.std.proofs.Common.{Bool, true, false, subst, sym}
use Rattle.std.specs.Prelude.{Result, Ok, IfOk, IsTrue}
use Rattle.std.proofs.lemmas.Result.{IfOk-weaker}
use Rattle.sqlite.specs.Effect.{Database}
use Rattle.sqlite.specs.State.{State}
use Rattle.reg_core.specs.World.{World}
use Rattle.reg_opening.specs.Audits.{knows_free}
use Rattle.reg_opening.specs.declared.audit.Audit.{Audit}
use Rattle.reg_tables.proofs.Enduring.{endures_then}
use Rattle.reg_tables.proofs.RestLemmas.{stays_then}
use Rattle.reg_tables.specs.Connection.{Endures, IsIdle, Stays, Works}
use Rattle.reg_tables.specs.Selecting.{BeginsWith}
use Rattle.reg_tables.specs.Version.{table_count}
use Rattle.reg_tables.specs.declared.version.Version.{Version}
use Rattle.reg_statements.specs.Content.{content_at}
use Rattle.reg_opening.specs.Feeding.{FeedsPart, FeedsTable, TellsTable, tables_at}
use Rattle.reg_statements.specs.Tables.{Tables}

-- what is told by two calls of which each leaves the store as it was
pub feeds_after : {E : Type 0} (v : Version) {Before : Tables → World → Type 0}
    {IsHeld : Tables → Type 0} {filled : Tables → World → World} {old mid new : State} {a c : Audit}
    (result : Result Bool E) → IsIdle new → Endures old mid → Endures mid new → Stays old mid
    → Stays mid new → IfOk result (λ _. IsTrue (knows_free a) → IsTrue (knows_free c))
    → (Works new → BeginsWith (table_count v) old.now.schema
    → IfOk result (TellsTable (Before (tables_at v old.now)) (IsHeld (tables_at v old.now))
    (filled (tables_at v old.now)) (content_at v old.now) a c))
    → FeedsPart {E = E} v Before IsHeld filled old new a c result
feeds_after v {old = old} {mid = mid} {new = new} result idle lasts endures rests stays free tells =
    record {
      idle = idle;
      endures = endures_then old mid new lasts endures;
      stays = stays_then old mid new rests stays;
      free = free;
      tells = tells;
    }

then_told : (F G : World → Type 0) (H I : Type 0) (f g : World → World) (whole : World)
    (a b c : Audit) (k : Bool) → FeedsTable F H f a b → TellsTable G I g whole b c k
    → TellsTable (λ w. F w × G (f w)) (H × I) (λ w. g (f w)) whole a c k
then_told F G H I f g whole a b c true first second = record {
  audits = λ w audits before held.
      second.audits (f w) (first.audits w audits before.0 held.0) before.1 held.1;
  held = λ w audits before kept.
      let had = first.held w audits before.0 (second.stays kept) in
      (had, second.held (f w) (first.audits w audits before.0 had) before.1 kept);
  stays = λ kept. first.stays (second.stays kept);
}
then_told F G H I f g whole a b c false first second = λ held kept. second held.1 kept

-- a part, and what comes after it
pub feeds_then : {E : Type 0} (v : Version) {F G : Tables → World → Type 0} {H I : Tables → Type 0}
    {f g : Tables → World → World} {old mid new : State} {a b c : Audit} (result : Result Bool E)
    → FeedsPart {E = E} v F H f old mid a b (Ok true) → FeedsPart v G I g mid new b c result
    → FeedsPart v (λ t w. F t w × G t (f t w)) (λ t. H t × I t) (λ t w. g t (f t w)) old new a c
    result
feeds_then v {G = G} {I = I} {g = g} {old = old} {a = a} {b = b} {c = c} result first second =
    feeds_after v result second.idle first.endures second.endures first.stays second.stays
    (IfOk-weaker result _ _ (λ k more known. more (first.free known)) second.free)
    (λ works has.
    let before = second.stays.worked works in
    let same = first.stays.unchanged before in
    let later = subst (λ (db : Database). IfOk result
    (TellsTable (G (tables_at v db)) (I (tables_at v db)) (g (tables_at v db)) (content_at v db) b c))
    same (second.tells works (subst (λ (db : Database). BeginsWith (table_count v) db.schema) (sym same) has)) in
    IfOk-weaker result _ _ (λ said told. then_told _ _ _ _ _ _ (content_at v old.now) a b c said
    (first.tells before has) told) later)

-- where the rows of the first part do not read, those of both do not
pub feeds_stop : {E : Type 0} (v : Version) {F : Tables → World → Type 0} {H : Tables → Type 0}
    {f : Tables → World → World} (Before : Tables → World → Type 0) (I : Tables → Type 0)
    (filled : Tables → World → World) {old new : State} {a b : Audit}
    → FeedsPart {E = E} v F H f old new a b (Ok false)
    → FeedsPart {E = E} v Before (λ t. H t × I t) filled old new a b (Ok false)
feeds_stop v Before I filled first = record {
  idle = first.idle;
  endures = first.endures;
  stays = first.stays;
  free = first.free;
  tells = λ works has held kept. first.tells works has held.0 kept;
}

-- what is told of any world is told of those in which more is known
pub feeds_where : {E : Type 0} (v : Version) {F G : Tables → World → Type 0} {H : Tables → Type 0}
    {f : Tables → World → World} {old new : State} {a b : Audit} (result : Result Bool E)
    → ((t : Tables) (w : World) → G t w → F t w) → FeedsPart {E = E} v F H f old new a b result
    → FeedsPart {E = E} v G H f old new a b result
feeds_where v {F} {G} {H} {f} {old = old} {a = a} {b = b} result gives part = record {
  idle = part.idle;
  endures = part.endures;
  stays = part.stays;
  free = part.free;
  tells = λ works has. IfOk-weaker result _ _ weaker (part.tells works has);
}
  where
    weaker : (k : Bool)
        → TellsTable (F (tables_at v old.now)) (H (tables_at v old.now)) (f (tables_at v old.now))
        (content_at v old.now) a b k
        → TellsTable (G (tables_at v old.now)) (H (tables_at v old.now)) (f (tables_at v old.now))
        (content_at v old.now) a b k
    weaker true told = record {
      audits = λ w audits before held. told.audits w audits (gives _ w before) held;
      held = λ w audits before kept. told.held w audits (gives _ w before) kept;
      stays = told.stays;
    }
    weaker false told = told
