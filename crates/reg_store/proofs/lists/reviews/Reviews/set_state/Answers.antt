use Rattle.std.proofs.Common.{sym, subst}
use Rattle.std.specs.FinMap.{FinMap, contains_key}
use Rattle.reg_core.specs.World.{World, RequestName, name_cmp}
use Rattle.reg_core.specs.declared.request.Case.{Case}
use Rattle.reg_store.specs.Lists.Queues.{AreInStep, AreWorded, all_queues}
use Rattle.reg_store.specs.Lists.Reviews.{world_of}
use Rattle.reg_store.proofs.QueueLaws.InStep.{in_step-with_state}
use Rattle.reg_store.proofs.lists.reviews.Reviews.set_state.Goals as goal

pub invariant_of-self : goal.invariant_of-self
invariant_of-self c =
    let self = c.args.self.now in
    let w : World = world_of self in
    let name : RequestName = (c.args.account, c.args.reference) in
    let old = all_queues self.queues in
    let new = all_queues c.set_words.new.queues in
    let worded = subst (λ word. AreWorded (λ e. contains_key w.queue (name, e)) name word old new)
    c.word.ensures c.set_words.ensures in
    let in_step : FinMap name_cmp Case → Type 0 =
    λ requests. AreInStep (record w { requests = requests }) new in
    record {
      in_step = subst in_step (sym c.set_state.ensures)
          (in_step-with_state w old self.in_step name c.args.state new worded);
    }
