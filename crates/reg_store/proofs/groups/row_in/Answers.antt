use Rattle.std.proofs.Common.{sym, ap, ◌∙◌}
use Rattle.std.specs.Prelude.{Some, None}
use Rattle.std.specs.Option.{option_copied}
use Rattle.reg_maps.proofs.FiniteMaps.Nested.{get-group}
use Rattle.reg_store.proofs.groups.row_in.Goals as goal

pub returns-in_err-get : goal.returns-in_err-get
returns-in_err-get g c =
    ap option_copied c.from_residual.ensures
    ∙ sym (get-group g.met.A.Key.order g.met.B.Key.order c.args.groups.now
    c.len-groups.ensures.ordered c.args.first.now None
    (sym c.in_err-get.ensures.value) c.args.second.now)

pub returns : goal.returns
returns g c =
    c.get-2.ensures.value
    ∙ sym (get-group g.met.A.Key.order g.met.B.Key.order c.args.groups.now
    c.len-groups.ensures.ordered c.args.first.now (Some c.in_ok-get.field-0.now)
    (sym c.in_ok-get.ensures.value) c.args.second.now)
