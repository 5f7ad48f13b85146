use Rattle.reg_store.proofs.HeldLaws.{held-empty}
use Rattle.reg_store.proofs.lists.holdings.Holdings.new.Goals as goal

pub invariant_of-result : goal.invariant_of-result
invariant_of-result c = record {
  in_step = held-empty c.new.result c.new-2.result c.new.ensures.empty c.new-2.ensures.empty;
}
