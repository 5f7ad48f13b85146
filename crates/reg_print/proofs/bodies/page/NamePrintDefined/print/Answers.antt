use Rattle.reg_print.proofs.PrintedTokens.{prints_object}
use Rattle.reg_print.proofs.bodies.page.NamePrintDefined.print.Goals as goal

pub returns : goal.returns
returns c =
    prints_object c.open_object.ensures
    c.put.ensures c.close_object.ensures tt
