use Rattle.std.proofs.Common.{rules}
use Rattle.reg_core.specs.Holding.{with_mark}
use Rattle.reg_store.proofs.lists.holdings.set_private_held.Goals as goal

pub returns : goal.returns
returns c = c.change_row.ensures (with_mark c.args.private) (λ holder left changed. search rules)
