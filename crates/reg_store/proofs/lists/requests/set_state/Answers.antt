use Rattle.std.proofs.Common.{rules}
use Rattle.reg_core.specs.World.{in_state}
use Rattle.reg_store.proofs.lists.requests.set_state.Goals as goal

pub returns : goal.returns
returns c = c.change_row.ensures (in_state c.args.state) (λ case left changed. search rules)
