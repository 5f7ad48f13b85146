use Rattle.reg_registers.proofs.Digests.{gives_digests}
use Rattle.reg_office.proofs.laws.given_stays.Goals as goal

pub returns : goal.returns
returns c = c.given_stays.ensures _ gives_digests
