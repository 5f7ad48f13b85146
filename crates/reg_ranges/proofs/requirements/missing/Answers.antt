use Rattle.std.proofs.Common.{◌≡◌, Bool, true, false, not, cond, List, [], ◌∷◌, Some, refl, sym, ◌∙◌}
use Rattle.std.specs.Prelude.{find, filter}
use Rattle.reg_ranges.specs.declared.evidence.Item.{Item}
use Rattle.reg_ranges.specs.Requirements.{asked_items, first_item, is_met}
use Rattle.reg_ranges.proofs.requirements.missing.Goals as goal

first_item-filter : (p : Item → Bool) (xs : List Item) → first_item (filter p xs) ≡ find p xs
first_item-filter p [] = refl
first_item-filter p (x ∷ xs) =
    elim (p x) as
    (λ b. first_item (cond b (x ∷ filter p xs) (filter p xs)) ≡ cond b (Some x) (find p xs)) [
      | true ↦ refl
      | false ↦ first_item-filter p xs
    ]

pub returns : goal.returns
returns c =
    rw c.asked_items.ensures at c.first_unmet.ensures
    ∙ sym (first_item-filter (λ i. not (is_met c.args.evidence.now i))
    (asked_items c.args.policy))
