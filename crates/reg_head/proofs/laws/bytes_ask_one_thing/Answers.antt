use Rattle.reg_head.proofs.OneAsk.{one_thing}
use Rattle.reg_head.proofs.laws.bytes_ask_one_thing.Goals as goal

pub returns : goal.returns
returns c = one_thing
