use Rattle.reg_import.specs.Lines.{hold_line}
use Rattle.reg_import.proofs.LineTexts.{none_pushed, one_pushed_ok}
use Rattle.reg_import.proofs.lines.push_hold_if.Goals as goal

pub returns-then-held : goal.returns-then-held
returns-then-held c =
    rw c.if-held.true
    (one_pushed_ok c.push_hold.result c.args.out.now.items c.push_hold.new.out.items
    (hold_line c.args.import.now c.args.entry.now) c.push_hold.ensures)

pub returns-else-held : goal.returns-else-held
returns-else-held c = rw c.if-held.false (none_pushed c.args.out.now.items)
