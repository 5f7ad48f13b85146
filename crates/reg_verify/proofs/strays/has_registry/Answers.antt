use Rattle.reg_verify.proofs.StrayFiles.{has_by_first, has_not}
use Rattle.reg_verify.proofs.strays.has_registry.Goals as goal

pub returns-in-Some : goal.returns-in-Some
returns-in-Some c =
    has_by_first c.args.said.now c.args.name.now c.in_ok-least.least c.in-Some.first.now
    c.is_range_in.result c.in_ok-least.ensures c.in-Some.ensures c.is_range_in.ensures

pub returns : goal.returns
returns c =
    has_not c.args.said.now c.args.name.now c.in_ok-least.least c.in_ok-least.ensures c.in-None.ensures
