use Rattle.std.proofs.Common.{rules}
use Rattle.reg_core.specs.Entry.{with_hold}
use Rattle.reg_store.proofs.lists.entries.set_hold.Goals as goal

pub returns : goal.returns
returns c = c.change_row.ensures (with_hold c.args.held) (λ entry left changed. search rules)
