-- Acts that are kept one after the other.
use Rattle.std.proofs.Common.{◌≡◌, ◌∙◌, Bool, true, List, [], ◌∷◌, ◌++◌, ap, filter, refl}
use Rattle.reg_core.specs.Journal.{acts_in_order, with_acts}
use Rattle.reg_core.specs.declared.journal.Act.{Act}
use Rattle.reg_core.proofs.Journals.{in_order-with}

-- those at the end come before all others in the journal
pub with_acts-append : (kept acts journal : List Act)
    → with_acts (kept ++ acts) journal ≡ with_acts acts (with_acts kept journal)
with_acts-append [] acts journal = refl
with_acts-append (act ∷ kept) acts journal = with_acts-append kept acts (act ∷ journal)

-- they are listed in the order in which they are kept
pub chosen_in_order : (test : Act → Bool) (acts : List Act)
    → acts_in_order test (with_acts acts []) ≡ filter test acts
chosen_in_order test acts = in_order-with test acts []

filter_all : (acts : List Act) → filter (λ (act : Act). true) acts ≡ acts
filter_all [] = refl
filter_all (act ∷ acts) = ap (λ (more : List Act). act ∷ more) (filter_all acts)

pub all_in_order : (acts : List Act) → acts_in_order (λ (act : Act). true) (with_acts acts []) ≡ acts
all_in_order acts = chosen_in_order (λ (act : Act). true) acts ∙ filter_all acts
