-- Acts that are added one after the other.
use Rattle.std.proofs.Common.{◌≡◌, ℕ, suc, ◌+◌, ◌-◌, ◌<◌, ◌≤◌, false, List, [], ◌∷◌, ◌++◌, length, take, drop}
use Rattle.std.proofs.Common.{get_or, refl, sym, ap, subst, ◌∙◌, arith}
use Rattle.std.proofs.lemmas.List.{length-take-le, take_all, take_more}
use Rattle.reg_core.specs.Journal.{with_acts}
use Rattle.reg_core.specs.World.{World, applied}
use Rattle.reg_core.specs.declared.change.Change.{Change}
use Rattle.reg_core.specs.declared.change.Change.TheVariants.{Grant, RevokeAll}
use Rattle.reg_core.specs.declared.journal.Act.{Act}
use Rattle.reg_rows.specs.Changing.{writes_row}

-- first some, and then more
with_acts-append : (acts more journal : List Act)
    → with_acts (acts ++ more) journal ≡ with_acts more (with_acts acts journal)
with_acts-append [] more journal = refl
with_acts-append (act ∷ acts) more journal = with_acts-append acts more (act ∷ journal)

-- there are as many more
pub with_acts-length : (acts journal : List Act)
    → length (with_acts acts journal) ≡ length journal + length acts
with_acts-length [] journal = omega arith
with_acts-length (act ∷ acts) journal =
    let rest = with_acts-length acts (act ∷ journal) in omega (arith, rest)

-- all but the first
abbrev pub later : List Act → List Act
later acts = take (length acts - 1) (drop 1 acts)

within : (acts : List Act) (i : ℕ) → i < length (later acts) → suc i ≤ length acts
within [] i inside = absurd (omega (arith, inside))
within (first ∷ others) i inside =
    let whole : later (first ∷ others) ≡ others =
    take_all (length (first ∷ others) - 1) others (omega arith) in
    let left : i < length others = subst (λ more. i < length more) whole inside in
    omega (arith, left)

-- the number of the last of the first ones is how many there are then
pub counted_on : (acts journal : List Act) (i number last : ℕ) → i < length (later acts)
    → number ≡ last + suc i → last ≡ length journal
    → number ≡ length (with_acts (take (suc i) acts) journal)
counted_on acts journal i number last inside is was =
    let long = with_acts-length (take (suc i) acts) journal in
    let took = length-take-le (suc i) acts (within acts i inside) in
    omega (arith, long, took, is, was)

-- after the first ones, and then the next
pub next_added : (acts journal : List Act) (i : ℕ) (act : Act) → i < length (later acts)
    → act ≡ get_or (later acts) i act
    → act ∷ with_acts (take (suc i) acts) journal ≡ with_acts (take (suc (i + 1)) acts) journal
next_added [] journal i act inside is = absurd (omega (arith, inside))
next_added (first ∷ others) journal i act inside is =
    let whole : later (first ∷ others) ≡ others =
    take_all (length (first ∷ others) - 1) others (omega arith) in
    sym (with_acts-append (take i others) (act ∷ []) (first ∷ journal))
    ∙ ap (λ a. with_acts (take i others ++ a ∷ []) (first ∷ journal))
    (is ∙ ap (λ more. get_or more i act) whole)
    ∙ ap (λ more. with_acts more (first ∷ journal))
    (sym (take_more others i act (subst (λ more. i < length more) whole inside)))

-- a change leaves the journal as it was
pub applied_journal : (w : World) (change : Change) → (applied w change).journal ≡ w.journal
applied_journal w (Grant digest cap) = refl
applied_journal w change = refl

-- so with no act more it is the change
pub applied_alone : (w : World) (change : Change)
    → record (applied w change) { journal = w.journal } ≡ applied w change
applied_alone w (Grant digest cap) = refl
applied_alone w change = refl

-- a change that writes to no row changes nothing
pub nothing_applied : (w : World) (change : Change) → writes_row change ≡ false → applied w change ≡ w
nothing_applied w (RevokeAll []) none = refl
nothing_applied w (RevokeAll (digest ∷ digests)) none = absurd (cc)
nothing_applied w change none = absurd (cc)
