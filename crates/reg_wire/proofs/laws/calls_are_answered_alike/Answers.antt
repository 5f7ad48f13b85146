use Rattle.reg_wire.proofs.Calls.{calls_alike}
use Rattle.reg_wire.proofs.laws.calls_are_answered_alike.Goals as goal

pub returns : goal.returns
returns c = calls_alike c.two_worlds.ensures
