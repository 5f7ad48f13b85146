use Rattle.reg_import.proofs.LineTexts.{none_pushed}
use Rattle.reg_import.proofs.lines.push_review_if.Goals as goal

pub returns-else-filing : goal.returns-else-filing
returns-else-filing c = rw c.if-filing.false (none_pushed c.args.out.now.items)
