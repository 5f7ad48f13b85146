use Rattle.reg_laws.proofs.BlocksAreGivenDuly.{private_hidden}
use Rattle.reg_laws.proofs.private_holders_are_hidden.Goals as goal

pub returns : goal.returns
returns c = private_hidden
