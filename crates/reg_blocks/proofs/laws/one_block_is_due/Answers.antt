use Rattle.reg_blocks.proofs.TrialFindsTheBlockDue.{IsDue-unique}
use Rattle.reg_blocks.proofs.laws.one_block_is_due.Goals as goal

pub returns : goal.returns
returns c = IsDue-unique
