use Rattle.std.proofs.Common.{ap, sym, ◌∙◌, map, rules}
use Rattle.std.specs.FinMap.{entries}
use Rattle.reg_maps.specs.Maps.{text_cmp}
use Rattle.reg_maps.specs.Groups.{pair_map}
use Rattle.reg_core.specs.File.{opinion}
use Rattle.reg_core.specs.World.{Seat, name_cmp}
use Rattle.reg_core.specs.declared.advice.Advice.{Advice}
use Rattle.reg_store.proofs.lists.opinions.opinions_in.Goals as goal
use Rattle.reg_store.proofs.NameGroups.{name_group}

pub returns : goal.returns
returns c =
    c.from_vec.ensures
    ∙ c.in_ok-list_group.ensures opinion (λ expert advice row made. search rules)
    ∙ ap (λ m. map (λ (e : Seat × Advice). opinion e.0 e.1) (entries m))
    (sym (name_group (pair_map name_cmp text_cmp c.args.opinions.now) c.args.name.now))
