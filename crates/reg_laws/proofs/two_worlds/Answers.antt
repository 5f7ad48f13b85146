use Rattle.reg_laws.proofs.TwoWorlds.{worlds_alike}
use Rattle.reg_laws.proofs.two_worlds.Goals as goal

pub returns : goal.returns
returns c = worlds_alike
