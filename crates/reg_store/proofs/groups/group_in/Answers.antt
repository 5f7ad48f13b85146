use Rattle.std.proofs.Common.{sym, ap, ◌∙◌}
use Rattle.std.specs.Prelude.{Some, None}
use Rattle.std.specs.Option.{option_copied}
use Rattle.reg_maps.specs.Groups.{group_rows, rows_of}
use Rattle.reg_maps.proofs.FiniteMaps.Nested.{get-group, row_of}
use Rattle.reg_maps.proofs.FiniteMaps.InOrder.{entries-group_at}
use Rattle.reg_store.proofs.groups.group_in.Goals as goal

pub returns-clause-rows : goal.returns-clause-rows
returns-clause-rows g c =
    entries-group_at g.met.A.Key.order g.met.B.Key.order c.args.groups.now
    c.len-groups.ensures.ordered c.args.first.now (Some c.in_ok-group.group.now)
    (sym c.in_ok-group.ensures.value) c.len-rows.ensures.ordered

pub returns-clause-row : goal.returns-clause-row
returns-clause-row g c = λ second.
    sym (get-group g.met.A.Key.order g.met.B.Key.order c.args.groups.now
    c.len-groups.ensures.ordered c.args.first.now (Some c.in_ok-group.group.now)
    (sym c.in_ok-group.ensures.value) second)

pub returns-in_err-group-clause-rows : goal.returns-in_err-group-clause-rows
returns-in_err-group-clause-rows g c =
    entries-group_at g.met.A.Key.order g.met.B.Key.order c.args.groups.now
    c.len-groups.ensures.ordered c.args.first.now None (sym c.in_err-group.ensures.value) tt
    ∙ ap (λ group. group_rows c.args.first.now (rows_of (option_copied group)))
    (sym c.from_residual.ensures)

pub returns-in_err-group-clause-row : goal.returns-in_err-group-clause-row
returns-in_err-group-clause-row g c = λ second.
    ap (λ group. row_of g.B.Ord.cmp (option_copied group) second) c.from_residual.ensures
    ∙ sym (get-group g.met.A.Key.order g.met.B.Key.order c.args.groups.now
    c.len-groups.ensures.ordered c.args.first.now None (sym c.in_err-group.ensures.value) second)
