use Rattle.std.proofs.Common.{◌∙◌}
use Rattle.reg_parse.proofs.ShownPaths.{shown-none, shown-pattern, shown-whole}
use Rattle.reg_parse.proofs.route.Routes.shown.Goals as goal

pub returns-in-Some : goal.returns-in-Some
returns-in-Some c =
    shown-whole c.args.path.now c.in-Some.methods c.are_public.result c.in-Some.ensures.methods
    c.are_public.ensures c.if-are_public.true

pub returns-in-Some-2 : goal.returns-in-Some-2
returns-in-Some-2 c =
    shown-pattern c.args.path.now c.as_bytes.result.now c.in-Some.methods c.are_public.result
    c.in-Some.ensures.methods c.are_public.ensures c.if-are_public.false
    (c.as_bytes.ensures.value ∙ c.pattern.ensures)

pub returns-in-None : goal.returns-in-None
returns-in-None c =
    shown-none c.args.path.now c.as_bytes-in-None.result.now c.in-None.ensures.methods
    c.as_bytes-in-None.ensures.value
