use Rattle.reg_print.proofs.PrintedTokens.{◌▸◌, prints_object}
use Rattle.reg_print.proofs.bodies.ask.CodeAskPrintItself.print.Goals as goal

pub returns : goal.returns
returns c =
    let kind = rw c.word.ensures at c.put_text.ensures in
    prints_object c.open_object.ensures
    (c.put_if.ensures ▸ kind ▸ c.put.ensures
    ▸ c.put_least_if.ensures ▸ c.put_if-2.ensures ▸ c.put-2.ensures
    ▸ c.put_if-3.ensures ▸ c.put_if-4.ensures ▸ c.put_value_if.ensures)
    c.close_object.ensures tt
