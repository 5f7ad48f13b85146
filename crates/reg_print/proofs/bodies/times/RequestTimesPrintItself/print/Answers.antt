use Rattle.reg_print.proofs.PrintedTokens.{◌▸◌, prints_object}
use Rattle.reg_print.proofs.bodies.times.RequestTimesPrintItself.print.Goals as goal

pub returns : goal.returns
returns c =
    prints_object c.open_object.ensures
    (c.put_number_if.ensures ▸ c.put.ensures ▸ c.put_number_if-2.ensures)
    c.close_object.ensures tt
