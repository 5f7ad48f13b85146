use Rattle.reg_import.proofs.WholeRegisters.{registers_made}
use Rattle.reg_import.proofs.laws.registers_are_made.Goals as goal

pub returns : goal.returns
returns c digest_of = registers_made digest_of
