use Rattle.reg_print.proofs.PrintedTokens.{◌▸◌, prints_object}
use Rattle.reg_print.proofs.bodies.file.WaitingFilePrintItself.print.Goals as goal

pub returns : goal.returns
returns c =
    prints_object c.open_object.ensures
    (c.put_file.ensures ▸ c.put_number_if.ensures)
    c.close_object.ensures tt
