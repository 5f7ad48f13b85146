use Rattle.reg_print.proofs.PrintedTokens.{◌▸◌, prints_object}
use Rattle.reg_print.proofs.bodies.advice.OpinionPrintItself.print.Goals as goal

pub returns : goal.returns
returns c =
    prints_object c.open_object.ensures
    (c.put.ensures ▸ c.put_advice.ensures)
    c.close_object.ensures tt
