use Rattle.std.proofs.Common.{rules}
use Rattle.reg_store.specs.Lists.Queues.{with_advice}
use Rattle.reg_store.proofs.lists.queues.set_advice.Goals as goal

pub returns : goal.returns
returns c = c.change_row.ensures (with_advice c.args.advice) (λ row left changed. search rules)
