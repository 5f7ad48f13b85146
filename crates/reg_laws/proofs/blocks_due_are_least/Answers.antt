use Rattle.reg_core.proofs.Blocks.{blocks_due_are_least}
use Rattle.reg_laws.proofs.blocks_due_are_least.Goals as goal

pub returns : goal.returns
returns c = blocks_due_are_least
