use Rattle.std.proofs.Common.{◌≡◌, false, IsTrue, [], inl, inr, map, refl, reverse, rules, subst}
use Rattle.sqlite.specs.Held.{state}
use Rattle.reg_statements.proofs.ReadLemmas.{passed_on}
use Rattle.reg_opening.specs.Feeding.{FeedsRows}
use Rattle.reg_opening.specs.Numbered.{IsRising}
use Rattle.reg_opening.proofs.Causes.{query_cause}
use Rattle.reg_opening.proofs.Feeding.{fed_all, risen_all}
use Rattle.reg_opening.proofs.RowidLemmas.{rowids_read}
use Rattle.reg_opening.proofs.feed.feed_table.Goals as goal

pub returns-then-has_risen-clause-rows : goal.returns-then-has_risen-clause-rows
returns-then-has_risen-clause-rows g c works =
    let had = rw c.if-not-branch.false at (c.in_ok-each.ensures.rows works) in
    let values = had.2.0 in
    let holds : IsTrue c.each.new.sink.rise.holds = search rules in
    let risen = (risen_all g.T.Fed.row_of c.begin.new.self c.each.new.sink values [] had.2.2
    c.begin.ensures.rise).0 holds in
    let fed = subst (λ audit. FeedsRows audit c.each.new.sink.audit
    (map (λ numbered. g.T.Fed.row_of numbered.value) (reverse values))) c.begin.ensures.audit
    (fed_all g.T.Fed.row_of c.begin.new.self c.each.new.sink values had.2.2) in
    (had.0, had.1, (values, had.2.1, (risen.0, risen.1, risen.2), fed))

pub returns-else-has_risen-clause-fault : goal.returns-else-has_risen-clause-fault
returns-else-has_risen-clause-fault g c = record {
  why = inr (inr (
    refl,
    λ works.
        let had = rw c.if-not-branch.false at (c.in_ok-each.ensures.rows works) in
        let values = had.2.0 in
        let holds = (risen_all g.T.Fed.row_of c.begin.new.self c.each.new.sink values [] had.2.2
        c.begin.ensures.rise).1 in
        let fallen : c.each.new.sink.rise.holds ≡ false = search rules in
        inl (record {
          sql = c.args.sql.now;
          rows = had.0;
          from = c.args.conn.now;
          upto = c.each.new.conn;
          seen = refl;
          shown = had.1;
          misordered = (
            refl,
            λ rising.
                let risen = holds (subst IsRising
                (rowids_read g.T.Record.of g.T.FedRow.table.width had.0 values had.2.1) rising) in
                absurd (cc),
          );
        }),
  ));
}

pub returns-in_err-each-clause-fault : goal.returns-in_err-each-clause-fault
returns-in_err-each-clause-fault g c =
    passed_on _ c.from_residual.result c.in_err-each.field-0.0 c.from_residual.ensures.1
    (query_cause c.args.sql.now (state g.S.Store c.args.conn.now) c.each.new.conn _
    c.in_err-each.ensures.stays (λ refused. refused) c.in_err-each.ensures.fault)
