use Rattle.reg_print.proofs.PrintedTokens.{◌▸◌, prints_object}
use Rattle.reg_print.proofs.bodies.page.RangePrintItself.print.Goals as goal

pub returns : goal.returns
returns c =
    let last = rw c.from.ensures at c.put_number.ensures in
    let first = rw c.from-2.ensures at c.put_number-2.ensures in
    let note = rw c.note_text.ensures at c.put_text.ensures in
    let treatment = rw c.word.ensures at c.put_text-2.ensures in
    prints_object c.open_object.ensures
    (last ▸ first ▸ note ▸ treatment) c.close_object.ensures tt
