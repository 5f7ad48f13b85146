use Rattle.std.proofs.Common.{◌≡◌, ◌++◌, map, Some, sym, ap, subst, ◌∙◌}
use Rattle.reg_statements.proofs.ReadLemmas.{list_takes, passed_on, refused_once}
use Rattle.reg_statements.proofs.read.load.Goals as goal

pub returns-then-branch-clause-rows : goal.returns-then-branch-clause-rows
returns-then-branch-clause-rows g c works =
    let had = rw c.if-branch.true at (c.in_ok-each.ensures.rows works) in
    let all = list_takes c.new-all.result c.each.new.sink had.2.0 had.2.2
    ∙ ap (λ items. items ++ had.2.0) c.new-all.ensures.items in
    (had.0, had.1, subst (λ items. map g.T.Record.of had.0 ≡ map Some items) (sym all) had.2.1)

pub returns-in_err-each-clause-fault : goal.returns-in_err-each-clause-fault
returns-in_err-each-clause-fault g c =
    passed_on _ c.from_residual.result c.in_err-each.field-0.0 c.from_residual.ensures.1
    (refused_once _ _ _ c.in_err-each.ensures.fault)
