use Rattle.reg_laws.proofs.AsksInVain.{foreign_are_hidden}
use Rattle.reg_laws.proofs.foreign_entries_are_hidden.Goals as goal

pub returns : goal.returns
returns c = foreign_are_hidden
