use Rattle.std.proofs.Common.{◌≡◌, sym, ap, subst, ◌∙◌}
use Rattle.std.specs.Prelude.{Some, None}
use Rattle.std.specs.FinMap.{insert}
use Rattle.std.specs.FinSet.{FinSet}
use Rattle.std.proofs.lemmas.Result.{on_ok_weaker}
use Rattle.reg_maps.proofs.Outcomes.{either_way, on_either}
use Rattle.reg_core.specs.World.{World, seat_cmp}
use Rattle.reg_store.specs.Lists.Panels.{seats}
use Rattle.reg_store.specs.Lists.Queues.{AreInStep, all_queues, row_for}
use Rattle.reg_store.specs.Lists.Reviews.{world_of}
use Rattle.reg_store.proofs.QueueLaws.InStep.{unseated, in_step-assign, in_step-assign_none}
use Rattle.reg_store.proofs.lists.reviews.Reviews.assign.Goals as goal

pub put_seat-requires : goal.put_seat-requires
put_seat-requires c =
    let self = c.args.self.now in
    unseated (world_of self) (all_queues self.queues) self.in_step c.args.name c.args.expert

pub invariant_of-self-in-Some : goal.invariant_of-self-in-Some
invariant_of-self-in-Some c =
    let self = c.args.self.now in
    let w : World = world_of self in
    let old = all_queues self.queues in
    let after : FinSet seat_cmp → World = λ queue. record w { queue = queue } in
    let e = c.put_seat.ensures in
    let row : row_for w.requests w.advice c.args.expert c.args.name ≡ Some c.in-Some.row =
    sym c.in_ok-row.ensures ∙ c.in-Some.is in
    record {
      in_step = on_either c.put_seat.result e.seats e.rows e.same_seats e.same_rows
          (λ seats rows.
          subst (λ queue. AreInStep (after queue) (all_queues c.put_seat.new.queues)) (sym seats)
          (subst (AreInStep (after (insert w.queue (c.args.name, c.args.expert) tt))) (sym rows)
          (in_step-assign w old self.in_step c.args.name c.args.expert c.in-Some.row row)))
          (λ seats rows.
          subst (λ queue. AreInStep (after queue) (all_queues c.put_seat.new.queues)) (sym seats)
          (subst (AreInStep w) (sym rows) self.in_step));
    }

pub invariant_of-self-in-None : goal.invariant_of-self-in-None
invariant_of-self-in-None c =
    let self = c.args.self.now in
    let w : World = world_of self in
    let rows = all_queues self.queues in
    let in_step : FinSet seat_cmp → Type 0 =
    λ queue. AreInStep (record w { queue = queue }) rows in
    let e = c.put_row.ensures in
    let none : row_for w.requests w.advice c.args.expert c.args.name ≡ None =
    sym c.in_ok-row.ensures ∙ c.in-None.is in
    record {
      in_step = either_way in_step c.put_row.result (seats c.put_row.new.groups)
          (insert w.queue (c.args.name, c.args.expert) tt) w.queue e.ok e.err
          (in_step-assign_none w rows self.in_step c.args.name c.args.expert none) self.in_step;
    }

pub returns-in-None-clause-ok : goal.returns-in-None-clause-ok
returns-in-None-clause-ok c =
    let w : World = world_of c.args.self.now in
    on_ok_weaker c.put_row.result
    (ap (λ (queue : FinSet seat_cmp). record w { queue = queue })) c.put_row.ensures.ok

pub returns-in-Some-clause-ok : goal.returns-in-Some-clause-ok
returns-in-Some-clause-ok c =
    let w : World = world_of c.args.self.now in
    on_ok_weaker c.put_seat.result
    (ap (λ (queue : FinSet seat_cmp). record w { queue = queue })) c.put_seat.ensures.seats
