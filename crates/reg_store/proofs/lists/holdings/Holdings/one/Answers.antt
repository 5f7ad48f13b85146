use Rattle.std.proofs.Common.{ap, ◌∙◌}
use Rattle.std.specs.Prelude.{option_map}
use Rattle.std.proofs.lemmas.Result.{IfOk-weaker}
use Rattle.reg_core.specs.Holding.{holding_row}
use Rattle.reg_store.proofs.lists.holdings.Holdings.one.Goals as goal

pub returns : goal.returns
returns c =
    let block = c.args.block.now in
    IfOk-weaker c.held_in.result _ _ (λ row same.
    same ∙ ap (option_map (holding_row block)) (c.args.self.now.in_step c.args.account.now block))
    c.held_in.ensures
