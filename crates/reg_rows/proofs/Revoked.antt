-- Capabilities that are taken away together.
use Rattle.std.proofs.Common.{◌≡◌, ℕ, suc, ◌+◌, ◌-◌, ◌<◌, false, true, List, [], ◌∷◌, ◌++◌, length, take, drop}
use Rattle.std.proofs.Common.{get_or, refl, sym, ap, subst, ◌∙◌, arith}
use Rattle.std.specs.FinMap.{FinMap, remove}
use Rattle.std.proofs.lemmas.List.{take_all, take_more}
use Rattle.reg_maps.specs.Maps.{text_cmp}
use Rattle.reg_core.specs.World.{without}
use Rattle.reg_core.specs.declared.capability.Cap.{Cap}
use Rattle.reg_core.specs.declared.change.Change.{Change}
use Rattle.reg_core.specs.declared.change.Change.TheVariants.{RevokeAll}
use Rattle.reg_rows.specs.Changing.{writes_row}

-- that which takes capabilities away and writes to a row has a digest
pub has_some : (change : Change) (digests : List (List ℕ)) → change ≡ RevokeAll digests
    → writes_row change ≡ true → digests ≡ [] → ⊥
has_some change digests is writes none =
    let no : false ≡ true = sym (ap writes_row (is ∙ ap RevokeAll none)) ∙ writes in
    absurd (cc)

-- without some, and then without more
without-append : (digests more : List (List ℕ)) (caps : FinMap text_cmp Cap)
    → without (digests ++ more) caps ≡ without more (without digests caps)
without-append [] more caps = refl
without-append (digest ∷ digests) more caps = without-append digests more (remove caps digest)

-- all but the first
abbrev pub later : List (List ℕ) → List (List ℕ)
later digests = take (length digests - 1) (drop 1 digests)

-- without the first ones, and then without the next
pub next_taken : (digests : List (List ℕ)) (i : ℕ) (digest : List ℕ) (caps : FinMap text_cmp Cap)
    → i < length (later digests) → digest ≡ get_or (later digests) i digest
    → remove (without (take (suc i) digests) caps) digest
    ≡ without (take (suc (i + 1)) digests) caps
next_taken [] i digest caps inside is = absurd (omega (arith, inside))
next_taken (first ∷ others) i digest caps inside is =
    let whole : later (first ∷ others) ≡ others =
    take_all (length (first ∷ others) - 1) others (omega arith) in
    sym (without-append (take i others) (digest ∷ []) (remove caps first))
    ∙ ap (λ d. without (take i others ++ d ∷ []) (remove caps first))
    (is ∙ ap (λ ds. get_or ds i digest) whole)
    ∙ ap (λ ds. without ds (remove caps first))
    (sym (take_more others i digest (subst (λ ds. i < length ds) whole inside)))
