use Rattle.reg_print.proofs.PrintedTokens.{is_member}
use Rattle.reg_print.proofs.printing.Printer.put.Goals as goal

pub returns : goal.returns
returns g c = is_member c.name.ensures c.print.ensures
