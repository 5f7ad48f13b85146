use Rattle.std.proofs.Common.{◌≡◌, ℕ, true, false, inl, inr, subst, sym, ◌∙◌, rules}
use Rattle.std.specs.Prelude.{Result}
use Rattle.sqlite.specs.Effect.{Database}
use Rattle.sqlite.specs.Held.{state}
use Rattle.sqlite.specs.State.{State}
use Rattle.reg_core.specs.WellKept.{WellKept}
use Rattle.reg_tables.specs.Connection.{Endures, Stays}
use Rattle.reg_tables.specs.Selecting.{BeginsWith}
use Rattle.reg_tables.specs.Version.{table_count}
use Rattle.reg_tables.specs.declared.version.Version.{Version}
use Rattle.reg_tables.proofs.Enduring.{endures_then}
use Rattle.reg_tables.proofs.RestLemmas.{stays_then}
use Rattle.reg_statements.specs.Content.{content_at}
use Rattle.reg_opening.specs.Acts.{CountsActs}
use Rattle.reg_opening.specs.Feeding.{tables_at}
use Rattle.reg_opening.specs.Parts.{AreParts}
use Rattle.reg_statements.proofs.ReadLemmas.{passed_on}
use Rattle.reg_opening.proofs.Causes.{cause_later, cause_wider}
use Rattle.reg_opening.proofs.OpenLemmas.{LeaveFed, rows_leave, version_first}
use Rattle.reg_opening.proofs.kind.read_rows.Goals as goal

-- what three calls leave of the store
endures_thrice : (a b c d : State) → Endures a b → Endures b c → Endures c d → Endures a d
endures_thrice a b c d p q r = endures_then a c d (endures_then a b c p q) r

stays_thrice : (a b c d : State) → Stays a b → Stays b c → Stays c d → Stays a d
stays_thrice a b c d p q r = stays_then a c d (stays_then a b c p q) r

-- what is told of the journal later is so of it before
acts_before : {E : Type 0} (v : Version) (old mid : State) (r : Result ℕ E) → mid.now ≡ old.now
    → (BeginsWith (table_count v) mid.now.schema → CountsActs (tables_at v mid.now) r)
    → BeginsWith (table_count v) old.now.schema → CountsActs (tables_at v old.now) r
acts_before v old mid r same told begins =
    subst (λ (db : Database). CountsActs (tables_at v db) r) same
    (told (subst (λ (db : Database). BeginsWith (table_count v) db.schema) (sym same) begins))

pub returns-then-not-branch-clause-rows : goal.returns-then-not-branch-clause-rows
returns-then-not-branch-clause-rows g c works schema =
    let v = c.args.version in
    let no : c.in_ok-feed_parts.field-0 ≡ false = search rules in
    let same = c.in_ok-check_rowids.ensures.stays.unchanged (c.feed_parts.ensures.feeds.stays.worked works) in
    let fed = rw no at (c.in_ok-feed_parts.ensures.feeds.tells works
    (subst (λ (db : Database). BeginsWith (table_count v) db.schema) (sym same) schema)) in
    λ both.
    let later = subst (λ (db : Database). AreParts (tables_at v db) × WellKept (content_at v db))
    (sym same) both in
    absurd (fed later.0.0 later.1)

pub returns-in_default-clause-rows : goal.returns-in_default-clause-rows
returns-in_default-clause-rows g c works schema =
    let v = c.args.version in
    let mid = state g.S.Store c.check_rowids.new.conn in
    let yes : c.in_ok-feed_parts.field-0 ≡ true = search rules in
    let same = c.in_ok-check_rowids.ensures.stays.unchanged (c.feed_parts.ensures.feeds.stays.worked works) in
    let fed = rw yes at (c.in_ok-feed_parts.ensures.feeds.tells works
    (subst (λ (db : Database). BeginsWith (table_count v) db.schema) (sym same) schema)) in
    let free = c.in_ok-vacancies.field-0 in
    let none = rw c.in_default.is at (subst (λ (db : Database). LeaveFed (tables_at v db) free) same
    (rows_leave (tables_at v mid.now) c.new-feeder.result.audit c.feed_parts.new.feeder.audit free
    (rw (sym c.new-feeder.ensures) at c.new.ensures.world) fed c.in_ok-vacancies.ensures.free)) in
    λ both. none (both.0.0, both.1)

pub returns-in-Ok-clause-rows : goal.returns-in-Ok-clause-rows
returns-in-Ok-clause-rows g c works schema =
    let v = c.args.version in
    let old = state g.S.Store c.args.conn.now in
    let mid = state g.S.Store c.check_rowids.new.conn in
    let late = state g.S.Store c.feed_parts.new.conn in
    let yes : c.in_ok-feed_parts.field-0 ≡ true = search rules in
    let read = c.in_ok-last.ensures in
    let went = read.stays.worked works in
    let worked = c.feed_parts.ensures.feeds.stays.worked went in
    let same = c.in_ok-check_rowids.ensures.stays.unchanged worked in
    let fed = rw yes at (c.in_ok-feed_parts.ensures.feeds.tells went
    (subst (λ (db : Database). BeginsWith (table_count v) db.schema) (sym same) schema)) in
    let keyed = c.in_ok-check_rowids.ensures.keyed worked (version_first v old.now schema) in
    let free = c.in_ok-vacancies.field-0 in
    let left = rw c.in-Some.is at (subst (λ (db : Database). LeaveFed (tables_at v db) free) same
    (rows_leave (tables_at v mid.now) c.new-feeder.result.audit c.feed_parts.new.feeder.audit free
    (rw (sym c.new-feeder.ensures) at c.new.ensures.world) fed c.in_ok-vacancies.ensures.free)) in
    let acts = rw c.in-Ok.is at (acts_before v old late c.in_ok-last.field-0
    (c.feed_parts.ensures.feeds.stays.unchanged went ∙ same) (λ begins. read.counts works begins)
    schema) in
    (keyed, (((left.0.0, acts.0), left.0.1), (left.1, acts.1)))

pub returns-in-Err-clause-rows : goal.returns-in-Err-clause-rows
returns-in-Err-clause-rows g c works schema =
    let v = c.args.version in
    let old = state g.S.Store c.args.conn.now in
    let late = state g.S.Store c.feed_parts.new.conn in
    let read = c.in_ok-last.ensures in
    let went = read.stays.worked works in
    let same = c.in_ok-check_rowids.ensures.stays.unchanged (c.feed_parts.ensures.feeds.stays.worked went) in
    let acts = rw c.in-Err.is at (acts_before v old late c.in_ok-last.field-0
    (c.feed_parts.ensures.feeds.stays.unchanged went ∙ same) (λ begins. read.counts works begins)
    schema) in
    λ both. acts both.0.1

pub returns-in-Ok-clause-endures : goal.returns-in-Ok-clause-endures
returns-in-Ok-clause-endures g c =
    endures_thrice _ _ _ _ c.in_ok-check_rowids.ensures.endures c.in_ok-feed_parts.ensures.feeds.endures
    c.in_ok-last.ensures.endures

pub returns-in-Ok-clause-stays : goal.returns-in-Ok-clause-stays
returns-in-Ok-clause-stays g c =
    stays_thrice _ _ _ _ c.in_ok-check_rowids.ensures.stays c.in_ok-feed_parts.ensures.feeds.stays
    c.in_ok-last.ensures.stays

pub returns-in-Err-clause-endures : goal.returns-in-Err-clause-endures
returns-in-Err-clause-endures g c =
    endures_thrice _ _ _ _ c.in_ok-check_rowids.ensures.endures c.in_ok-feed_parts.ensures.feeds.endures
    c.in_ok-last.ensures.endures

pub returns-in-Err-clause-stays : goal.returns-in-Err-clause-stays
returns-in-Err-clause-stays g c =
    stays_thrice _ _ _ _ c.in_ok-check_rowids.ensures.stays c.in_ok-feed_parts.ensures.feeds.stays
    c.in_ok-last.ensures.stays

pub returns-in_err-last-clause-endures : goal.returns-in_err-last-clause-endures
returns-in_err-last-clause-endures g c =
    endures_thrice _ _ _ _ c.in_ok-check_rowids.ensures.endures c.in_ok-feed_parts.ensures.feeds.endures
    c.in_err-last.ensures.endures

pub returns-in_err-last-clause-stays : goal.returns-in_err-last-clause-stays
returns-in_err-last-clause-stays g c =
    stays_thrice _ _ _ _ c.in_ok-check_rowids.ensures.stays c.in_ok-feed_parts.ensures.feeds.stays
    c.in_err-last.ensures.stays

pub returns-in_err-check_rowids-clause-fault : goal.returns-in_err-check_rowids-clause-fault
returns-in_err-check_rowids-clause-fault g c =
    passed_on _ c.from_residual.result c.in_err-check_rowids.field-0.0 c.from_residual.ensures.1
    (cause_wider _ _ _ (λ sql rows shows. inl shows) c.in_err-check_rowids.ensures.fault)

pub returns-in_err-feed_parts-clause-fault : goal.returns-in_err-feed_parts-clause-fault
returns-in_err-feed_parts-clause-fault g c =
    let fed = c.in_err-feed_parts.ensures in
    passed_on _ c.from_residual-in_err-feed_parts.result c.in_err-feed_parts.field-0.0
    c.from_residual-in_err-feed_parts.ensures.1
    (cause_later _ _ _ _ c.in_ok-check_rowids.ensures.stays fed.feeds.stays
    (cause_wider _ _ _ (λ sql rows shows. inr (inl shows)) fed.fault))

pub returns-in_err-vacancies-clause-fault : goal.returns-in_err-vacancies-clause-fault
returns-in_err-vacancies-clause-fault g c =
    let known = rw (sym c.new-feeder.ensures) at c.new.ensures.free in
    let still = c.in_ok-feed_parts.ensures.feeds.free known in
    let lost = c.in_err-vacancies.ensures.fault in
    absurd (cc)

pub returns-in_err-last-clause-fault : goal.returns-in_err-last-clause-fault
returns-in_err-last-clause-fault g c =
    let old = state g.S.Store c.args.conn.now in
    let mid = state g.S.Store c.check_rowids.new.conn in
    let late = state g.S.Store c.feed_parts.new.conn in
    let new = state g.S.Store c.count_acts.new.conn in
    let read = c.in_err-last.ensures in
    passed_on _ c.from_residual-in_err-last.result c.in_err-last.field-0.0
    c.from_residual-in_err-last.ensures.1
    (cause_later old late new _
    (stays_then old mid late c.in_ok-check_rowids.ensures.stays c.in_ok-feed_parts.ensures.feeds.stays)
    read.stays (cause_wider _ _ _ (λ sql rows shows. inr (inr shows)) read.fault))
