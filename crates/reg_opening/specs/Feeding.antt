-- What an audit is fed of the rows of a table.
use Rattle.std.specs.FinMap.{FinMap, get, insert, empty}
use Rattle.std.specs.declared.cmp.Ordering.{Ordering}
use Rattle.std.specs.Prelude.{◌≡◌, ℕ, ℤ, None, Result, Ok, IfOk, List, [], ◌∷◌, ◌++◌, map, reverse, Bool, true, false, IsTrue, IsSome, Option}
use Rattle.std.specs.List.{AllByRecursion}
use Rattle.std.specs.declared.alloc.AllocError.{AllocError}
use Rattle.sqlite.specs.Effect.{Database}
use Rattle.sqlite.specs.Order.{Row as SqlRow}
use Rattle.sqlite.specs.State.{State, Shown}
use Rattle.reg_maps.specs.RowMaps.{IsTable, held_in}
use Rattle.reg_core.specs.WellKept.{WellKept}
use Rattle.reg_core.specs.World.{World}
use Rattle.reg_opening.specs.Audits.{Audits, Feeds, is_well_kept, knows_free}
use Rattle.reg_opening.specs.Rows.{with_row, IsInTurn, IsNew}
use Rattle.reg_opening.specs.declared.audit.Audit.{Audit}
use Rattle.reg_opening.specs.declared.row.Row.{Row}
use Rattle.reg_tables.specs.Connection.{Endures, IsIdle, Stays, Works}
use Rattle.reg_tables.specs.Editing.{AreKeyed}
use Rattle.reg_tables.specs.Selecting.{BeginsWith}
use Rattle.reg_tables.specs.Version.{rows_of, table_count}
use Rattle.reg_tables.specs.declared.version.Version.{Version}
use Rattle.reg_opening.specs.Numbered.{HasRisen, IsRising, numbered_in}
use Rattle.reg_opening.specs.declared.feeder.Feeder.{Feeder}
use Rattle.reg_opening.specs.declared.numbered.Numbered.{Numbered}
use Rattle.reg_statements.specs.Content.{content_at}
use Rattle.reg_statements.specs.Loading.{ReadAs}
use Rattle.reg_statements.specs.Tables.{Tables, tables_in}

-- the rows of the tables of a version; those that it lacks have none
abbrev pub tables_at : Version → Database → Tables
tables_at v db = tables_in (rows_of v db.trees)

-- the world with the rows, from the last to the first
abbrev pub with_rows : World → List Row → World
with_rows w [] = w
with_rows w (next ∷ after) = with_row (with_rows w after) next

-- each row comes in its turn
abbrev pub AreInTurn : World → List Row → Type 0
AreInTurn w [] = Unit {0}
AreInTurn w (next ∷ after) = AreInTurn w after × IsInTurn (with_rows w after) next

-- no row has the key of one that is there
abbrev pub AreNew : World → List Row → Type 0
AreNew w [] = Unit {0}
AreNew w (next ∷ after) = AreNew w after × IsNew (with_rows w after) next

-- fed rows that are new, the audit was fed the rows of the world with them; and where it says that
-- all is well kept, they were new. It knows what is free, if it did before
pub record FeedsRows (old new : Audit) (rows : List Row) : Type 0 where
  pub audits : (w : World) → Audits old w → AreInTurn w rows → AreNew w rows
      → Audits new (with_rows w rows)
  pub fresh : (w : World) → Audits old w → AreInTurn w rows → IsTrue (is_well_kept new)
      → AreNew w rows
  pub stays : IsTrue (is_well_kept new) → IsTrue (is_well_kept old)
  pub free : IsTrue (knows_free old) → IsTrue (knows_free new)

-- the rowids of rows
abbrev pub rowids_of : {T : Type 0} → List (Numbered T) → List (Option ℤ)
rowids_of rows = map (λ row. row.rowid) rows

-- a feeder that takes a row of a table: the audit is fed it, and the rowids rise by its own
pub record TakesRow {T : Type 0} (row : T → Row) (old : Feeder) (next : Numbered T) (new : Feeder)
    : Type 0 where
  pub kept : Bool
  pub feeds : Feeds {E = AllocError} old.audit new.audit (Ok kept) (row next.value)
  pub rises : (rowids : List (Option ℤ)) → HasRisen old.rise rowids
      → HasRisen new.rise (rowids ++ next.rowid ∷ [])

-- whether each row reads, and where each does, their rowids rise, and the audit was fed what they
-- read as, the last of them last
abbrev pub IsFed : {T : Type 0} → (SqlRow → Option (Numbered T)) → (Numbered T → Row)
    → List SqlRow → Audit → Audit → Bool → Type 0
IsFed {T} of row rows old new true =
    (values : List (Numbered T)) × ReadAs of rows values × IsRising (rowids_of values)
    × FeedsRows old new (map row (reverse values))
IsFed of row rows old new false = ¬ AllByRecursion (λ r. IsSome (of r)) rows

-- the query showed rows: whether each reads with its rowid, and where each does, the audit was fed them
abbrev pub FeedsShown : {T : Type 0} → (SqlRow → Option T) → ℕ → (T → Row) → List ℕ → State → State
    → Audit → Audit → Bool → Type 0
FeedsShown read width row sql old new before after fed =
    (rows : List SqlRow) × Shown sql [] old new rows
    × IsFed (numbered_in read width) (λ numbered. row numbered.value) rows before after fed

-- an audit that was fed the rows of a part of the office: whether they are the table of the part,
-- and where they are, it was fed the rows of the world with this
pub record FeedsTable (Before : World → Type 0) (IsHeld : Type 0) (with : World → World)
    (old new : Audit) : Type 0 where
  pub audits : (w : World) → Audits old w → Before w → IsHeld → Audits new (with w)
  pub held : (w : World) → Audits old w → Before w → IsTrue (is_well_kept new) → IsHeld
  pub stays : IsTrue (is_well_kept new) → IsTrue (is_well_kept old)

-- what an audit that was fed the rows of a part says; or the part is not what it should be, or the
-- whole world not well kept
abbrev pub TellsTable : (World → Type 0) → Type 0 → (World → World) → World → Audit → Audit → Bool
    → Type 0
TellsTable Before IsHeld with whole old new true = FeedsTable Before IsHeld with old new
TellsTable Before IsHeld with whole old new false = IsHeld → ¬ WellKept whole

-- A call that feeds the rows of a part of an office of a version to an audit. The store stays as it
-- was. Where it comes to an end the audit knows what is free, if it did before.
pub record FeedsPart {E : Type 0} (v : Version) (Before : Tables → World → Type 0)
    (IsHeld : Tables → Type 0) (with : Tables → World → World) (old new : State)
    (before after : Audit) (result : Result Bool E) : Type 0 where
  pub idle : IsIdle new
  pub endures : Endures old new
  pub stays : Stays old new
  pub free : IfOk result (λ _. IsTrue (knows_free before) → IsTrue (knows_free after))
  pub tells : Works new → BeginsWith (table_count v) old.now.schema
      → let t = tables_at v old.now in
      IfOk result (TellsTable (Before t) (IsHeld t) (with t) (content_at v old.now) before after)

-- the rows that make a part of the world, in which none of them is before: each can come just where
-- its key is new and tied to what is there
pub record MakesPart {T K X : Type 0} {R : K → K → Ordering} (pair : T → K × X) (row : T → Row)
    (put : World → FinMap R X → World) (Before : World → Type 0) (IsTied : K → Type 0)
    : Type 0 where
  pub none : (w : World) → Before w → put w empty ≡ w
  pub with : (w : World) (m : FinMap R X) (t : T)
      → with_row (put w m) (row t) ≡ put w (insert m (pair t).0 (pair t).1)
  pub free : (w : World) (m : FinMap R X) (t : T) → Before w → IsNew (put w m) (row t)
      → (get m (pair t).0 ≡ None) × IsTied (pair t).0
  pub new : (w : World) (m : FinMap R X) (t : T) → Before w → get m (pair t).0 ≡ None
      → IsTied (pair t).0 → IsNew (put w m) (row t)
  pub turn : (w : World) (m : FinMap R X) (t : T) → Before w → IsInTurn (put w m) (row t)

-- each key of the map is tied
abbrev pub EachIsTied : {K X : Type 0} {R : K → K → Ordering} → FinMap R X → (K → Type 0) → Type 0
EachIsTied {K} m IsTied = (k : K) → IsSome (get m k) → IsTied k

-- the rows are a table, by rowids, and each key is tied
abbrev pub IsTiedTable : {K X : Type 0} → (K → K → Ordering) → (SqlRow → Option (K × X))
    → List SqlRow → (K → Type 0) → Type 0
IsTiedTable R at rows IsTied =
    (IsTable R at rows × AreKeyed rows) × EachIsTied (held_in {R = R} at rows) IsTied

-- of keys that owe nothing to other tables
abbrev pub Untied : {K : Type 0} → K → Type 0
Untied k = Unit {0}
