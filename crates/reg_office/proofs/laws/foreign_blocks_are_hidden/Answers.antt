use Rattle.reg_registers.specs.Caller.{token_digest}
use Rattle.reg_office.proofs.laws.foreign_blocks_are_hidden.Goals as goal

pub returns : goal.returns
returns c = c.foreign_blocks_are_hidden.ensures token_digest
