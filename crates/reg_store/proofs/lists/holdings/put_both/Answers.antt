use Rattle.std.proofs.Common.{◌≡◌, List, ℕ, sym, ap, subst, ◌∙◌}
use Rattle.std.specs.FinMap.{insert, remove}
use Rattle.reg_maps.specs.Maps.{finite_map}
use Rattle.reg_maps.proofs.FiniteMaps.Nested.{remove-inserted}
use Rattle.reg_blocks.specs.Block.{SizedPrefix, block_cmp}
use Rattle.reg_core.specs.Holding.{holder_in}
use Rattle.reg_store.specs.Lists.Held.{AreHeld, all_held}
use Rattle.reg_store.proofs.HeldLaws.{held_keys, held-put, not_held}
use Rattle.reg_store.proofs.lists.holdings.put_both.Goals as goal

pub returns-in-Ok-clause-in_step : goal.returns-in-Ok-clause-in_step
returns-in-Ok-clause-in_step c =
    let holder = holder_in c.args.holding in
    let block = c.args.holding.block in
    let blocks = finite_map block_cmp c.args.holders.now in
    let held = all_held c.args.held.now in
    let copied : c.in_ok-copy.field-0 ≡ holder =
    c.in_ok-copy.ensures ∙ c.into_holder-holder.ensures in
    let put : all_held c.put_row.new.groups ≡ insert held (holder.account, block) holder =
    c.in_ok-put_row.ensures.ok ∙ ap (insert held (holder.account, block)) copied in
    subst (λ x. AreHeld x (all_held c.put_row.new.groups)) (sym (c.in-Ok.ensures.ok ∙ ap (insert blocks block) c.into_holder-holder.ensures))
    (subst (AreHeld (insert blocks block holder)) (sym put)
    (held-put blocks held c.requires.in_step block holder c.requires.absent))

-- the block that was put is taken away again
pub returns-in-Err-clause-in_step : goal.returns-in-Err-clause-in_step
returns-in-Err-clause-in_step c =
    let holder = holder_in c.args.holding in
    let block = c.args.holding.block in
    let place : List ℕ × SizedPrefix = (holder.account, block) in
    let blocks = finite_map block_cmp c.args.holders.now in
    let held = all_held c.args.held.now in
    let restored : all_held c.take_row.new.groups ≡ held =
    c.take_row.ensures ∙ ap (λ m. remove m place) c.in_ok-put_row.ensures.ok
    ∙ remove-inserted held_keys held place c.in_ok-copy.field-0
    (not_held blocks held c.requires.in_step block c.requires.absent holder.account) in
    subst (λ x. AreHeld x (all_held c.take_row.new.groups)) (sym c.in-Err.ensures.err)
    (subst (AreHeld blocks) (sym restored) c.requires.in_step)
