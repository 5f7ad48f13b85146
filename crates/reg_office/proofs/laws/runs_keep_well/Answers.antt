use Rattle.reg_registers.proofs.Digests.{gives_digests}
use Rattle.reg_office.proofs.laws.runs_keep_well.Goals as goal

pub returns : goal.returns
returns c = c.runs_keep_well.ensures _ gives_digests
