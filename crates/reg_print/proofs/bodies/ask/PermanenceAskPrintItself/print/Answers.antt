use Rattle.reg_print.proofs.PrintedTokens.{◌▸◌, prints_object}
use Rattle.reg_print.proofs.bodies.ask.PermanenceAskPrintItself.print.Goals as goal

pub returns : goal.returns
returns c =
    let kind = rw c.word.ensures at c.put_text.ensures in
    let value = rw c.from.ensures at c.put_number.ensures in
    prints_object c.open_object.ensures
    (c.put_if.ensures ▸ kind ▸ c.put_if-2.ensures
    ▸ c.put.ensures ▸ c.put_if-3.ensures ▸ c.put_if-4.ensures ▸ value)
    c.close_object.ensures tt
