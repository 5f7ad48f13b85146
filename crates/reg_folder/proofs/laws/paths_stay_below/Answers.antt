use Rattle.reg_folder.proofs.Below.{stays_below}
use Rattle.reg_folder.proofs.laws.paths_stay_below.Goals as goal

pub returns : goal.returns
returns c = stays_below
