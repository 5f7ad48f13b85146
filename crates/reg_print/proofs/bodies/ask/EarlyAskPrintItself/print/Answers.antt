use Rattle.std.proofs.Common.{lit≤}
use Rattle.reg_print.proofs.PrintedTokens.{◌▸◌, printed_within, prints_object}
use Rattle.reg_print.proofs.bodies.ask.EarlyAskPrintItself.print.Goals as goal

pub returns : goal.returns
returns c =
    let kind = rw c.word.ensures at c.put_text.ensures in
    printed_within (lit≤ tt)
    (prints_object c.open_object.ensures
    (c.put_early_texts.ensures ▸ c.put_true_if.ensures ▸ kind ▸ c.put.ensures
    ▸ c.put_least_if.ensures ▸ c.put-2.ensures ▸ c.put_true_if-2.ensures
    ▸ c.put_value_if.ensures ▸ c.put_true_if-3.ensures)
    c.close_object.ensures tt)
