use Rattle.reg_registers.proofs.Digests.{gives_digests}
use Rattle.reg_office.proofs.laws.submissions_stand.Goals as goal

pub returns : goal.returns
returns c = c.submissions_stand.ensures _ gives_digests
