use Rattle.reg_blocks.proofs.TrialFindsTheBlockDue.{ends_meet-Decides}
use Rattle.reg_blocks.proofs.laws.ends_decide_clash.Goals as goal

pub returns : goal.returns
returns c = ends_meet-Decides
