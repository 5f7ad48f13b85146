use Rattle.reg_laws.proofs.ValuesAreGivenOnce.{no_value_is_given_twice}
use Rattle.reg_laws.proofs.no_value_is_given_twice.Goals as goal

pub returns : goal.returns
returns c = no_value_is_given_twice
