use Rattle.std.specs.FinMap.{FinMap, insert}
use Rattle.reg_maps.specs.Maps.{text_cmp}
use Rattle.reg_maps.specs.Groups.{pair_map}
use Rattle.reg_maps.proofs.Outcomes.{either_way}
use Rattle.reg_core.specs.World.{World, name_cmp, pending}
use Rattle.reg_core.specs.declared.request.Case.{Case}
use Rattle.reg_store.specs.Lists.Queues.{AreInStep, all_queues}
use Rattle.reg_store.specs.Lists.Reviews.{world_of}
use Rattle.reg_store.proofs.QueueLaws.InStep.{in_step-submit}
use Rattle.reg_store.proofs.lists.reviews.Reviews.submit.Goals as goal

pub invariant_of-self : goal.invariant_of-self
invariant_of-self c =
    let self = c.args.self.now in
    let w : World = world_of self in
    let rows = all_queues self.queues in
    let in_step : FinMap name_cmp Case → Type 0 =
    λ requests. AreInStep (record w { requests = requests }) rows in
    let e = c.put_row.ensures in
    record {
      in_step = either_way in_step c.put_row.result
          (pair_map text_cmp text_cmp c.put_row.new.groups)
          (insert w.requests (c.args.account, c.args.reference)
          (pending c.args.ask)) w.requests e.ok e.err
          (in_step-submit w rows self.in_step
          (c.args.account, c.args.reference) c.args.ask c.requires) self.in_step;
    }
