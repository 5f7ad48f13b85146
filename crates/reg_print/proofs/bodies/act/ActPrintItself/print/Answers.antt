use Rattle.reg_print.proofs.PrintedTokens.{◌▸◌, prints_object}
use Rattle.reg_print.proofs.bodies.act.ActPrintItself.print.Goals as goal

pub returns : goal.returns
returns c =
    let kind = rw (c.word.ensures, c.of.ensures) at c.put_text.ensures in
    prints_object c.open_object.ensures
    (c.put_about.ensures ▸ kind ▸ c.put_number_if.ensures ▸ c.put_what.ensures)
    c.close_object.ensures tt
