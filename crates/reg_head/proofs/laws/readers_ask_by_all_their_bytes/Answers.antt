use Rattle.reg_head.proofs.AllBytes.{by_all_bytes}
use Rattle.reg_head.proofs.laws.readers_ask_by_all_their_bytes.Goals as goal

pub returns : goal.returns
returns c = by_all_bytes
