use Rattle.std.proofs.Common.{◌≡◌, true, false, IsTrue, [], arith, inl, inr, refl, rules, subst, sym}
use Rattle.std.proofs.lemmas.Bool.Decides.{nat_tests}
use Rattle.std.proofs.lemmas.Result.{IfErr-weaker, IfOk-weaker}
use Rattle.std.specs.Prelude.{IfOk, nat_lt}
use Rattle.sqlite.specs.Effect.{Database}
use Rattle.sqlite.specs.Held.{state}
use Rattle.reg_tables.specs.Selecting.{BeginsWith}
use Rattle.reg_tables.specs.Version.{table_count}
use Rattle.reg_statements.specs.Office as office
use Rattle.reg_statements.proofs.ReadLemmas.{passed_on}
use Rattle.reg_opening.specs.Acts.{CountsRows}
use Rattle.reg_opening.specs.Numbered.{IsRising}
use Rattle.reg_opening.proofs.ActsRead.{acts_followed, acts_keyed, acts_unread, by_rowid, first_fourteen, no_acts_told}
use Rattle.reg_opening.proofs.ActsRead.{rowids_read, shows_acts, tally_rises, told_acts}
use Rattle.reg_opening.proofs.Causes.{cause_later, query_cause}
use Rattle.reg_opening.proofs.acts.count_acts.Goals as goal

pub each-requires-clause-plain : goal.each-requires-clause-plain
each-requires-clause-plain g c = shows_acts.selects.plain

-- of a version that lacks the table
pub returns-then-tables-le-PLACE-clause-counts : goal.returns-then-tables-le-PLACE-clause-counts
returns-then-tables-le-PLACE-clause-counts g c works begins =
    let old = state g.S.Store c.args.conn.now in
    let lacks : nat_lt 13 (table_count c.args.reading.version) ≡ false = grind (arith, nat_tests) in
    no_acts_told c.args.reading.version old.now lacks

-- where a row does not read
pub returns-then-not-branch-clause-counts : goal.returns-then-not-branch-clause-counts
returns-then-not-branch-clause-counts g c works begins =
    let v = c.args.reading.version in
    let old = state g.S.Store c.args.conn.now in
    let new = state g.S.Store c.each.new.conn in
    let has : nat_lt 13 (table_count v) ≡ true = grind (arith, nat_tests) in
    let no : c.in_ok-each.field-0 ≡ false = search rules in
    let had = rw no at (c.in_ok-each.ensures.rows works) in
    acts_unread v old begins has new had.0 had.1 had.2

-- where rowids do not rise
pub returns-then-not-holds-clause-fault : goal.returns-then-not-holds-clause-fault
returns-then-not-holds-clause-fault g c = record {
  why = inr (inr (
    refl,
    λ works.
        let yes : c.in_ok-each.field-0 ≡ true = search rules in
        let had = rw yes at (c.in_ok-each.ensures.rows works) in
        let values = had.2.0 in
        let holds = (tally_rises c.none-tally.result c.each.new.sink values [] had.2.2
        c.none-tally.ensures.rise).1 in
        let fallen : c.each.new.sink.rise.holds ≡ false = search rules in
        inl (record {
          sql = by_rowid;
          rows = had.0;
          from = c.args.conn.now;
          upto = c.each.new.conn;
          seen = refl;
          shown = had.1;
          misordered = inl (
            shows_acts,
            λ rising.
                let risen = holds (subst IsRising (rowids_read had.0 values had.2.1) rising) in
                absurd (cc),
          );
        }),
  ));
}

-- where numbers follow in the order of rowids
pub returns-then-tally-clause-counts : goal.returns-then-tally-clause-counts
returns-then-tally-clause-counts g c works begins =
    let v = c.args.reading.version in
    let old = state g.S.Store c.args.conn.now in
    let new = state g.S.Store c.each.new.conn in
    let has : nat_lt 13 (table_count v) ≡ true = grind (arith, nat_tests) in
    let yes : c.in_ok-each.field-0 ≡ true = search rules in
    let rose : IsTrue c.each.new.sink.rise.holds = search rules in
    let follows : IsTrue c.each.new.sink.follows = search rules in
    let had = rw yes at (c.in_ok-each.ensures.rows works) in
    acts_followed v old begins has new had.0 had.1 c.none-tally.result c.each.new.sink had.2.0
    had.2.1 had.2.2 c.none-tally.ensures.rise rose c.none-tally.ensures.last follows

-- and where they do not
pub returns-clause-counts : goal.returns-clause-counts
returns-clause-counts g c works begins =
    let v = c.args.reading.version in
    let old = state g.S.Store c.args.conn.now in
    let mid = state g.S.Store c.each.new.conn in
    let has : nat_lt 13 (table_count v) ≡ true = grind (arith, nat_tests) in
    let yes : c.in_ok-each.field-0 ≡ true = search rules in
    let rose : IsTrue c.each.new.sink.rise.holds = search rules in
    let worked = c.count_by_number.ensures.stays.worked works in
    let same = c.in_ok-each.ensures.stays.unchanged worked in
    let had = rw yes at (c.in_ok-each.ensures.rows worked) in
    let keyed = acts_keyed v old begins has mid had.0 had.1 c.none-tally.result c.each.new.sink had.2.0
    had.2.1 had.2.2 c.none-tally.ensures.rise rose in
    let counts = subst (λ (db : Database). IfOk c.count_by_number.result
    (CountsRows (db.trees office.journal.table.tree))) same
    (c.count_by_number.ensures.counts works
    (subst (λ (db : Database). BeginsWith 14 db.schema) (sym same) (first_fourteen v old begins has))) in
    IfOk-weaker c.count_by_number.result _ _ (λ r counts. told_acts v old begins has keyed r counts)
    counts

pub returns-clause-fault : goal.returns-clause-fault
returns-clause-fault g c =
    IfErr-weaker c.count_by_number.result _ _ (λ fault cause.
    cause_later _ _ _ fault c.in_ok-each.ensures.stays c.count_by_number.ensures.stays cause)
    c.count_by_number.ensures.fault

pub returns-in_err-each-clause-fault : goal.returns-in_err-each-clause-fault
returns-in_err-each-clause-fault g c =
    passed_on _ c.from_residual.result c.in_err-each.field-0.0 c.from_residual.ensures.1
    (query_cause by_rowid (state g.S.Store c.args.conn.now) c.each.new.conn _
    c.in_err-each.ensures.stays (λ refused. refused) c.in_err-each.ensures.fault)
