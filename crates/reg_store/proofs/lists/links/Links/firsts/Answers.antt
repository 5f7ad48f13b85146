use Rattle.std.proofs.Common.{◌∙◌}
use Rattle.std.proofs.lemmas.Result.{IfOk-weaker}
use Rattle.reg_store.proofs.LinkLaws.{firsts-mirrored}
use Rattle.reg_store.proofs.lists.links.Links.firsts.Goals as goal

pub returns : goal.returns
returns c =
    let self = c.args.self.now in
    IfOk-weaker c.seconds_in.result _ _ (λ names same.
    same ∙ firsts-mirrored _ _ self.in_step c.args.second.now) c.seconds_in.ensures
