use Rattle.std.proofs.Common.{sym, ◌∙◌, rules}
use Rattle.reg_store.specs.Lists.Queues.{all_queues}
use Rattle.reg_store.specs.Lists.Reviews.{world_of}
use Rattle.reg_store.proofs.QueueLaws.InStep.{queue_rows-group}
use Rattle.reg_store.proofs.lists.reviews.Reviews.queue.Goals as goal

pub returns : goal.returns
returns c =
    let self = c.args.self.now in
    c.from_vec.ensures
    ∙ c.in_ok-list_group.ensures (λ place row. row) (λ name row copy made. search rules)
    ∙ sym (queue_rows-group (world_of self)
    (all_queues self.queues) self.in_step c.args.expert.now)
