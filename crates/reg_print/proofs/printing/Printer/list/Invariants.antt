use Rattle.reg_print.proofs.PrintedTokens.{IfFront}
use Rattle.reg_print.proofs.printing.Printer.list.Given as goal

abbrev pub invariant-loop-item : goal.invariant-loop-item
invariant-loop-item g l =
    IfFront g.T.Print.levels g.T.Print.tree l.items l.item-index l.initial.self l.self
