use Rattle.reg_registers.proofs.Digests.{gives_digests}
use Rattle.reg_office.proofs.laws.blocks_are_apart.Goals as goal

pub returns : goal.returns
returns c = c.blocks_are_apart.ensures _ gives_digests
