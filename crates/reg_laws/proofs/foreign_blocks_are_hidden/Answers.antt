use Rattle.reg_laws.proofs.BlocksAreGivenDuly.{foreign_hidden}
use Rattle.reg_laws.proofs.foreign_blocks_are_hidden.Goals as goal

pub returns : goal.returns
returns c = foreign_hidden
