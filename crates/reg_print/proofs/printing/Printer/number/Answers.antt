use Rattle.std.proofs.Common.{rules}
use Rattle.reg_print.proofs.PrintedTokens.{number-exact}
use Rattle.reg_print.proofs.printing.Printer.number.Goals as goal

pub returns-then-self : goal.returns-then-self
returns-then-self c = search (rules, number-exact)
