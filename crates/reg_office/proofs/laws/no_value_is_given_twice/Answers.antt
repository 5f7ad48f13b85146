use Rattle.reg_registers.proofs.Digests.{gives_digests}
use Rattle.reg_office.proofs.laws.no_value_is_given_twice.Goals as goal

pub returns : goal.returns
returns c = c.no_value_is_given_twice.ensures _ gives_digests
