use Rattle.std.proofs.Common.{ap, sym, ◌∙◌, map, rules}
use Rattle.std.specs.FinMap.{entries}
use Rattle.reg_core.specs.World.{Seat}
use Rattle.reg_store.specs.Lists.Panels.{seats}
use Rattle.reg_store.proofs.lists.panels.experts_in.Goals as goal
use Rattle.reg_store.proofs.NameGroups.{name_group}

pub returns : goal.returns
returns c =
    c.from_vec.ensures
    ∙ c.in_ok-list_group.ensures (λ (seat : Seat) (none : Unit {0}). seat.1)
    (λ expert none copy made. search rules)
    ∙ ap (λ m. map (λ (e : Seat × Unit {0}). e.0.1) (entries m))
    (sym (name_group (seats c.args.panels.now) c.args.name.now))
