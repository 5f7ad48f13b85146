use Rattle.std.proofs.Common.{nat_le, ap, filter, subst, sym, ◌∙◌}
use Rattle.std.specs.List.Sorted.{IsNonDecreasingBy}
use Rattle.std.proofs.lemmas.List.Kept.{IsNonDecreasingBy-filter}
use Rattle.reg_core.specs.declared.entry.PageEntry.{PageEntry}
use Rattle.reg_core.proofs.EntriesInRange.{filter-filter, never_falls}
use Rattle.reg_core.proofs.page.PageEntries.in_range.Goals as goal

pub entries_from-requires : goal.entries_from-requires
entries_from-requires c =
    subst (IsNonDecreasingBy (λ e. e.value)) (sym c.as_slice.ensures.value)
    (never_falls (λ e. e.value) c.self.inside.items.items c.self.invariant)

pub entries_to-requires : goal.entries_to-requires
entries_to-requires c =
    let given = c.self.inside.items.items in
    let low = λ (e : PageEntry). nat_le c.args.range.now.lo e.value in
    subst (IsNonDecreasingBy (λ e. e.value))
    (sym (c.entries_from.ensures ∙ ap (filter low) c.as_slice.ensures.value))
    (IsNonDecreasingBy-filter (λ e. e.value) low given
    (never_falls (λ e. e.value) given c.self.invariant))

pub returns : goal.returns
returns c =
    let low = λ (e : PageEntry). nat_le c.args.range.now.lo e.value in
    let high = λ (e : PageEntry). nat_le e.value c.args.range.now.hi in
    c.entries_to.ensures
    ∙ ap (filter high)
    (c.entries_from.ensures ∙ ap (filter low) (c.as_slice.ensures.value ∙ c.self.view_is))
    ∙ filter-filter low high c.args.self.now
