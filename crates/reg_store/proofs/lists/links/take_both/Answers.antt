use Rattle.std.proofs.Common.{sym, subst}
use Rattle.std.specs.FinMap.{remove}
use Rattle.reg_store.specs.Lists.Pairs.{AreMirrored, NamePair, all_pairs}
use Rattle.reg_store.proofs.LinkLaws.{mirrored-taken}
use Rattle.reg_store.proofs.lists.links.take_both.Goals as goal

pub returns-clause-in_step : goal.returns-clause-in_step
returns-clause-in_step c =
    let pairs = all_pairs c.args.by_first.now in
    let pair : NamePair = (c.args.first.now, c.args.second.now) in
    subst (λ x. AreMirrored x (all_pairs c.take_row-2.new.groups)) (sym c.take_row.ensures)
    (subst (AreMirrored (remove pairs pair)) (sym c.take_row-2.ensures)
    (mirrored-taken pairs _ c.requires pair.0 pair.1))
