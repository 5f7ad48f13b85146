use Rattle.reg_store.proofs.QueueLaws.InStep.{in_step-empty}
use Rattle.reg_store.proofs.lists.reviews.Reviews.new.Goals as goal

pub invariant_of-result : goal.invariant_of-result
invariant_of-result c = record {
  in_step = in_step-empty c.new.result c.new-2.result c.new-3.result c.new-4.result
      c.new-2.ensures.empty c.new-4.ensures.empty;
}
