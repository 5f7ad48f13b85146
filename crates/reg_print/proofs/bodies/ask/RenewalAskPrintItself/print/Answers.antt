use Rattle.std.proofs.Common.{lit≤}
use Rattle.reg_print.proofs.PrintedTokens.{◌▸◌, printed_within, prints_object}
use Rattle.reg_print.proofs.bodies.ask.RenewalAskPrintItself.print.Goals as goal

pub returns : goal.returns
returns c =
    let kind = rw c.word.ensures at c.put_text.ensures in
    let value = rw c.from.ensures at c.put_number.ensures in
    printed_within (lit≤ tt)
    (prints_object c.open_object.ensures
    (c.put_early_texts.ensures ▸ c.put_if.ensures ▸ c.put_true_if.ensures ▸ kind
    ▸ c.put.ensures ▸ c.put_true_if-2.ensures ▸ value ▸ c.put_true_if-3.ensures)
    c.close_object.ensures tt)
