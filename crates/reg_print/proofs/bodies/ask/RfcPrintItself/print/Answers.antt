use Rattle.reg_print.proofs.PrintedTokens.{◌▸◌, prints_object}
use Rattle.reg_print.proofs.bodies.ask.RfcPrintItself.print.Goals as goal

pub returns : goal.returns
returns c =
    let number = rw (c.from.ensures, c.number.ensures.number) at c.put_number.ensures in
    let stream = rw (c.word.ensures, c.stream.ensures) at c.put_text.ensures in
    let track = rw (c.word-2.ensures, c.track.ensures) at c.put_text-2.ensures in
    prints_object c.open_object.ensures
    (number ▸ stream ▸ track)
    c.close_object.ensures tt
