use Rattle.std.proofs.Common.{sym, ap, subst, ◌∙◌}
use Rattle.std.specs.FinMap.{insert, remove}
use Rattle.reg_maps.proofs.FiniteMaps.Nested.{remove-inserted}
use Rattle.reg_store.specs.Lists.Pairs.{AreMirrored, NamePair, all_pairs}
use Rattle.reg_store.proofs.LinkLaws.{mirrored-added, names_keys}
use Rattle.reg_store.proofs.lists.links.add_both.Goals as goal

pub returns-in-Ok-clause-in_step : goal.returns-in-Ok-clause-in_step
returns-in-Ok-clause-in_step c =
    let pairs = all_pairs c.args.by_first.now in
    let pair : NamePair = (c.args.first, c.args.second) in
    subst (λ x. AreMirrored x (all_pairs c.put_row-2.new.groups)) (sym c.in_ok-put_row.ensures.ok)
    (subst (AreMirrored (insert pairs pair tt)) (sym c.in-Ok.ensures.ok)
    (mirrored-added pairs _ c.requires pair.0 pair.1))

-- the pair that was put is taken away again
pub returns-in-Err-clause-err : goal.returns-in-Err-clause-err
returns-in-Err-clause-err c =
    let pair : NamePair = (c.args.first, c.args.second) in
    c.take_row.ensures ∙ ap (λ m. remove m pair) c.in_ok-put_row.ensures.ok
    ∙ remove-inserted names_keys (all_pairs c.args.by_first.now) pair tt
    (sym (c.requires pair.0 pair.1) ∙ c.in-Err.ensures.absent)

pub returns-in-Err-clause-in_step : goal.returns-in-Err-clause-in_step
returns-in-Err-clause-in_step c =
    subst (λ x. AreMirrored x (all_pairs c.put_row-2.new.groups))
    (sym (returns-in-Err-clause-err c))
    (subst (AreMirrored (all_pairs c.args.by_first.now)) (sym c.in-Err.ensures.err) c.requires)
