use Rattle.reg_print.proofs.PrintedTokens.{◌▸◌, prints_object}
use Rattle.reg_print.proofs.bodies.queue.QueueRowPrintItself.print.Goals as goal

pub returns : goal.returns
returns c =
    let state = rw c.word.ensures at c.put_text.ensures in
    prints_object c.open_object.ensures
    (c.put.ensures ▸ c.put_if.ensures ▸ c.put-2.ensures ▸ c.put-3.ensures
    ▸ state)
    c.close_object.ensures tt
