use Rattle.reg_registers.proofs.Digests.{gives_digests}
use Rattle.reg_office.proofs.laws.changes_fit.Goals as goal

pub returns : goal.returns
returns c = c.changes_fit.ensures _ gives_digests
