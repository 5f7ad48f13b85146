use Rattle.reg_print.proofs.PrintedTokens.{◌▸◌, prints_object}
use Rattle.reg_print.proofs.bodies.page.PageEntryPrintItself.print.Goals as goal

pub returns : goal.returns
returns c =
    let status = rw c.word.ensures at c.put_text.ensures in
    let value = rw c.from.ensures at c.put_number.ensures in
    prints_object c.open_object.ensures
    (c.put.ensures ▸ c.put_expires_if.ensures ▸ c.put_day.ensures
    ▸ c.put_true_if.ensures ▸ c.put-2.ensures ▸ c.put_renewed_if.ensures ▸ status
    ▸ value)
    c.close_object.ensures tt
