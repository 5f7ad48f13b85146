use Rattle.reg_laws.proofs.AsksInVain.{expired_are_taken}
use Rattle.reg_laws.proofs.expired_values_are_taken.Goals as goal

pub returns : goal.returns
returns c = expired_are_taken
