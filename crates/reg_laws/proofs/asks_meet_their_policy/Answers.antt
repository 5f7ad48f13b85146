use Rattle.reg_laws.proofs.ValuesAreGivenOnce.{asks_meet_their_policy}
use Rattle.reg_laws.proofs.asks_meet_their_policy.Goals as goal

pub returns : goal.returns
returns c = asks_meet_their_policy
