use Rattle.std.proofs.Common.{sym, ◌∙◌, rules}
use Rattle.reg_store.specs.Lists.Pairs.{NamePair, all_pairs}
use Rattle.reg_store.proofs.LinkLaws.{seconds-group}
use Rattle.reg_store.proofs.lists.links.seconds_in.Goals as goal

pub returns : goal.returns
returns c =
    c.from_vec.ensures
    ∙ c.in_ok-list_group.ensures (λ (pair : NamePair) (none : Unit {0}). pair.1)
    (λ second none copy made. search rules)
    ∙ sym (seconds-group (all_pairs c.args.pairs.now) c.args.first.now)
