use Rattle.reg_blocks.proofs.BlocksAscend.{ascends-from_sorted}
use Rattle.reg_blocks.proofs.laws.sorted_blocks_ascend.Goals as goal

pub returns : goal.returns
returns c = ascends-from_sorted
