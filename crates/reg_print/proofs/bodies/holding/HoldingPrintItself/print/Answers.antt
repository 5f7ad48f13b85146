use Rattle.reg_print.proofs.PrintedTokens.{◌▸◌, prints_object}
use Rattle.reg_print.proofs.bodies.holding.HoldingPrintItself.print.Goals as goal

pub returns : goal.returns
returns c =
    let size = rw (c.word.ensures, c.size.ensures) at c.put_text.ensures in
    prints_object c.open_object.ensures
    (c.put.ensures ▸ c.put_block.ensures ▸ c.put-2.ensures
    ▸ c.put_flag.ensures ▸ size)
    c.close_object.ensures tt
