use Rattle.std.proofs.Common.{ap, sym, subst, ◌∙◌, rules}
use Rattle.std.specs.Prelude.{map}
use Rattle.std.specs.List.Sorted.{IsStrictlyIncreasing}
use Rattle.std.specs.Ordering.{nat_cmp}
use Rattle.reg_maps.specs.Maps.{text_cmp}
use Rattle.reg_maps.specs.Groups.{pair_map}
use Rattle.reg_maps.proofs.FiniteMaps.InOrder.{text_group}
use Rattle.reg_core.specs.Entry.{entry_row}
use Rattle.reg_core.specs.Page.{entry_rows}
use Rattle.reg_core.proofs.ValuesIn.{rows_ascend}
use Rattle.reg_store.proofs.lists.entries.entries_in.Goals as goal

pub returns-clause-rows : goal.returns-clause-rows
returns-clause-rows c =
    c.from_vec.ensures
    ∙ c.in_ok-list_group.ensures (λ place registration. entry_row place.0 place.1 registration)
    (λ value registration entry made. search rules)
    ∙ ap entry_rows
    (sym (text_group (pair_map text_cmp nat_cmp c.args.entries.now) c.args.registry.now))

pub returns-clause-ascending : goal.returns-clause-ascending
returns-clause-ascending c =
    subst (λ rows. IsStrictlyIncreasing (map (λ e. e.value) rows)) (sym (returns-clause-rows c))
    (rows_ascend c.args.registry.now (pair_map text_cmp nat_cmp c.args.entries.now))
