use Rattle.std.proofs.Common.{None, ap}
use Rattle.reg_import.specs.Scripts.{numbered}
use Rattle.reg_import.proofs.LineTexts.{none_pushed}
use Rattle.reg_import.proofs.import.push_row.Goals as goal

pub returns-in-Ok-None-clause-lines : goal.returns-in-Ok-None-clause-lines
returns-in-Ok-None-clause-lines c = (
  None,
  ap (numbered c.args.number) (rw c.in-Ok-None.field-0-is at c.in-Ok-None.ensures.entry),
  none_pushed c.args.script.now.items,
)
