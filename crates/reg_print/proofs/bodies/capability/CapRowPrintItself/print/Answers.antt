use Rattle.reg_print.proofs.PrintedTokens.{◌▸◌, prints_object}
use Rattle.reg_print.proofs.bodies.capability.CapRowPrintItself.print.Goals as goal

pub returns : goal.returns
returns c =
    let digits = rw c.shown_digits.ensures at c.put_text.ensures in
    prints_object c.open_object.ensures
    (c.put.ensures ▸ digits ▸ c.put_right.ensures)
    c.close_object.ensures tt
