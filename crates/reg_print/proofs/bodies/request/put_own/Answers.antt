use Rattle.reg_print.proofs.PrintedTokens.{◌▸◌}
use Rattle.reg_print.proofs.bodies.request.put_own.Goals as goal

pub returns : goal.returns
returns c =
    c.put.ensures ▸ c.put_standing.ensures
