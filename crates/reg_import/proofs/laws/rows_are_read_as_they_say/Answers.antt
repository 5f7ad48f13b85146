use Rattle.reg_import.proofs.SaidEntries.{rows_said}
use Rattle.reg_import.proofs.laws.rows_are_read_as_they_say.Goals as goal

pub returns : goal.returns
returns c = rows_said
