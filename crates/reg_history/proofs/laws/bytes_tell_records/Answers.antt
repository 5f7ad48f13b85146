use Rattle.reg_history.proofs.Unique.{unique}
use Rattle.reg_history.proofs.laws.bytes_tell_records.Goals as goal

pub returns : goal.returns
returns c = unique
