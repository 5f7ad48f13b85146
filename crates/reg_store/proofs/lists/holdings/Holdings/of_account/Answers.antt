use Rattle.std.proofs.Common.{List, ℕ, sym, ◌∙◌, rules}
use Rattle.reg_blocks.specs.Block.{SizedPrefix}
use Rattle.reg_core.specs.Holding.{holding_row}
use Rattle.reg_core.specs.declared.holding.Holder.{Holder}
use Rattle.reg_store.specs.Lists.Held.{all_held}
use Rattle.reg_store.specs.Lists.Holdings.{blocks_held}
use Rattle.reg_store.proofs.HeldLaws.{holding_rows-group}
use Rattle.reg_store.proofs.lists.holdings.Holdings.of_account.Goals as goal

pub returns : goal.returns
returns c =
    let self = c.args.self.now in
    c.from_vec.ensures
    ∙ c.in_ok-list_group.ensures
    (λ (place : List ℕ × SizedPrefix) (h : Holder). holding_row place.1 h)
    (λ block h made. search rules)
    ∙ sym (holding_rows-group (blocks_held self) (all_held self.held) self.in_step
    c.args.account.now)
