use Rattle.reg_wire.proofs.AlikeRequests.{requests_alike}
use Rattle.reg_wire.proofs.laws.requests_are_answered_alike.Goals as goal

pub returns : goal.returns
returns c = requests_alike c.bytes_ask_one_thing.ensures c.calls_are_answered_alike.ensures
