use Rattle.reg_print.proofs.PrintedTokens.{is_member}
use Rattle.reg_print.proofs.printing.Printer.put_text.Goals as goal

pub returns : goal.returns
returns c = is_member c.name.ensures c.text.ensures
