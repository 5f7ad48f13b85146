use Rattle.reg_history.proofs.Unique.{same_bytes}
use Rattle.reg_history.proofs.laws.same_folder_same_bytes.Goals as goal

pub returns : goal.returns
returns c = same_bytes
