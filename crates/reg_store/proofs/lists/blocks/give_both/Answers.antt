use Rattle.std.proofs.Common.{sym, ap, subst, ◌∙◌}
use Rattle.std.specs.Prelude.{option_map}
use Rattle.std.specs.FinMap.{get, remove}
use Rattle.reg_maps.proofs.MapLaws.{get-inserted}
use Rattle.reg_maps.proofs.FiniteMaps.Nested.{remove-inserted}
use Rattle.reg_core.specs.Holding.{holder_in}
use Rattle.reg_core.proofs.KeyOrders.{block_keys}
use Rattle.reg_vacancies.specs.Places.{AreLeftBy}
use Rattle.reg_store.specs.Lists.Held.{account_of}
use Rattle.reg_store.specs.Lists.Holdings.{blocks_held}
use Rattle.reg_store.proofs.lists.blocks.give_both.Goals as goal

pub take-requires : goal.take-requires
take-requires c =
    let old = blocks_held c.args.holdings.now in
    let block = c.args.holding.block in
    sym (ap (option_map account_of) (ap (λ m. get m block) c.in_ok-put.ensures.ok
    ∙ get-inserted block_keys old block (holder_in c.args.holding)))

pub returns-in-Ok-clause-left : goal.returns-in-Ok-clause-left
returns-in-Ok-clause-left c =
    subst (AreLeftBy c.give.new.self) (sym c.in_ok-put.ensures.ok)
    (c.in-Ok.ensures.ok (blocks_held c.args.holdings.now) c.requires.left c.requires.in_pool
    (holder_in c.args.holding))

-- the block that was put is taken away again
pub returns-in-Err-clause-err : goal.returns-in-Err-clause-err
returns-in-Err-clause-err c =
    let old = blocks_held c.args.holdings.now in
    let block = c.args.holding.block in
    c.take.ensures ∙ ap (λ m. remove m block) c.in_ok-put.ensures.ok
    ∙ remove-inserted block_keys old block (holder_in c.args.holding) c.requires.absent

pub returns-in-Err-clause-left : goal.returns-in-Err-clause-left
returns-in-Err-clause-left c =
    subst (AreLeftBy c.give.new.self) (sym (returns-in-Err-clause-err c))
    ((c.in-Err.ensures.err.left (blocks_held c.args.holdings.now)).1 c.requires.left)
