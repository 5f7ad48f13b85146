use Rattle.std.proofs.Common.{sym, ◌∙◌, ap}
use Rattle.reg_parse.specs.Path.{has_empty_segment}
use Rattle.reg_parse.specs.Route.{methods_at}
use Rattle.reg_parse.proofs.Routed.{routed-no_text, routed-whole}
use Rattle.reg_parse.proofs.command.routed.Goals as goal

pub returns-in_default-clause-methods : goal.returns-in_default-clause-methods
returns-in_default-clause-methods c =
    sym (routed-no_text c.args.path.now c.in_default.ensures.cases.0)

pub returns-clause-methods : goal.returns-clause-methods
returns-clause-methods c =
    let same = c.in-Ok.ensures.cases.0 in
    let whole =
    ap has_empty_segment (sym same) ∙ sym c.has_empty_segment.ensures
    ∙ c.if-has_empty_segment.false in
    let found = c.in_ok-at.ensures ∙ ap methods_at same in
    found ∙ sym (routed-whole c.args.path.now c.in-Ok.ensures.cases.1 whole)
