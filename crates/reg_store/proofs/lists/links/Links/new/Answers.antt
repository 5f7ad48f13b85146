use Rattle.std.proofs.Common.{sym, ap, ◌∙◌}
use Rattle.std.specs.FinMap.{from_entries, get, get-empty}
use Rattle.reg_maps.specs.Groups.{rows_in}
use Rattle.reg_store.specs.Lists.Pairs.{names_cmp}
use Rattle.reg_store.proofs.lists.links.Links.new.Goals as goal

pub invariant_of-result : goal.invariant_of-result
invariant_of-result c = record {
  in_step = λ first second.
      ap (λ es. get (from_entries {R = names_cmp} (rows_in es)) (second, first))
      c.new-2.ensures.empty
      ∙ get-empty names_cmp (second, first)
      ∙ sym (ap (λ es. get (from_entries {R = names_cmp} (rows_in es)) (first, second))
      c.new.ensures.empty
      ∙ get-empty names_cmp (first, second));
}
