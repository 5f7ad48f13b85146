use Rattle.std.proofs.Common.{◌∙◌}
use Rattle.std.proofs.lemmas.Result.{IfOk-weaker}
use Rattle.reg_core.specs.World.{RequestName}
use Rattle.reg_store.proofs.lists.reviews.Reviews.queue_one.Goals as goal

pub returns : goal.returns
returns c =
    let asked : RequestName = (c.args.account.now, c.args.reference.now) in
    IfOk-weaker c.queued_in.result _ _ (λ row same.
    same ∙ c.args.self.now.in_step c.args.expert.now asked) c.queued_in.ensures
