use Rattle.std.proofs.Common.{lit≤}
use Rattle.reg_print.proofs.PrintedTokens.{◌▸◌, printed_within, prints_object}
use Rattle.reg_print.proofs.bodies.ask.BlockAskPrintItself.print.Goals as goal

pub returns : goal.returns
returns c =
    let kind = rw c.word.ensures at c.put_text.ensures in
    let size = rw c.word-2.ensures at c.put_text-2.ensures in
    printed_within (lit≤ tt)
    (prints_object c.open_object.ensures
    (c.put.ensures ▸ kind ▸ c.put-2.ensures ▸ size)
    c.close_object.ensures tt)
