use Rattle.reg_print.proofs.PrintedTokens.{◌▸◌}
use Rattle.reg_print.proofs.bodies.file.put_file.Goals as goal

pub returns : goal.returns
returns c =
    c.put.ensures ▸ c.put-2.ensures ▸ c.put-3.ensures ▸ c.put-4.ensures
    ▸ c.put_standing.ensures
