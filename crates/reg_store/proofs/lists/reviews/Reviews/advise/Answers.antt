use Rattle.std.proofs.Common.{◌≡◌, sym, ap, subst, ◌∙◌}
use Rattle.std.specs.FinMap.{FinMap, insert}
use Rattle.reg_maps.specs.Maps.{text_cmp}
use Rattle.reg_maps.specs.Groups.{pair_map}
use Rattle.reg_core.specs.World.{World, seat_cmp, name_cmp, applied}
use Rattle.reg_core.specs.declared.advice.Advice.{Advice}
use Rattle.reg_core.specs.declared.change.Change.TheVariants.{Advise}
use Rattle.reg_store.specs.Lists.Queues.{AreInStep, all_queues}
use Rattle.reg_store.specs.Lists.Reviews.{world_of}
use Rattle.reg_store.proofs.QueueLaws.InStep.{in_step-advise}
use Rattle.reg_store.proofs.lists.reviews.Reviews.advise.Goals as goal

pub invariant_of-self-2 : goal.invariant_of-self-2
invariant_of-self-2 c =
    let self = c.args.self.now in
    let w : World = world_of self in
    let put : pair_map name_cmp text_cmp c.put_row.new.groups
    ≡ insert w.advice (c.args.name, c.args.expert) c.args.advice =
    c.in_ok-put_row.ensures.ok
    ∙ (λ i. insert w.advice (c.args.name, c.args.expert) (c.in_ok-copy.ensures.equal i)) in
    let in_step : FinMap seat_cmp Advice → Type 0 =
    λ advice. AreInStep (record w { advice = advice }) (all_queues c.set_advice.new.queues) in
    record {
      in_step = subst in_step (sym put)
          (subst (AreInStep
          (applied w (Advise c.args.name.0 c.args.name.1 c.args.expert c.args.advice)))
          (sym c.set_advice.ensures)
          (in_step-advise w
          (all_queues self.queues) self.in_step c.args.name c.args.expert c.args.advice));
    }

pub returns-clause-ok : goal.returns-clause-ok
returns-clause-ok c =
    let w : World = world_of c.args.self.now in
    ap (λ (advice : FinMap seat_cmp Advice). record w { advice = advice })
    (c.in_ok-put_row.ensures.ok
    ∙ (λ i. insert w.advice (c.args.name, c.args.expert) (c.in_ok-copy.ensures.equal i)))
