use Rattle.reg_import.proofs.LineTexts.{none_pushed}
use Rattle.reg_import.proofs.lines.push_renewal_if.Goals as goal

pub returns-in_default : goal.returns-in_default
returns-in_default c = rw c.in_default.is (none_pushed c.args.out.now.items)
