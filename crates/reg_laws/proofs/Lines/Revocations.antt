-- Commands that take away capabilities that a test chooses go by their lines.
use Rattle.std.proofs.Common.{◌≡◌, ℕ, Bool, true, false, List, [], ◌∷◌, inl, inr, refl, sym, ap, subst, ◌∙◌, arith}
use Rattle.std.specs.Prelude.{Some, Ok, Err, Contains}
use Rattle.reg_core.proofs.Common.{eq_by_cmp_equiv, eq_by_cmp, both_ways, bytes_eq-Decides, text_cmp}
use Rattle.reg_core.proofs.Common.{same_text, text_keys, cap_row, caps_that, has_token, one_rule}
use Rattle.reg_core.proofs.Common.{all_rule, revoke_digits_rule, revoke_account_rule, World}
use Rattle.reg_laws.proofs.Types.{CapRow}
use Rattle.reg_core.proofs.Common.{by_rule, by_test}
use Rattle.reg_laws.proofs.Types.{Decision, Told}
use Rattle.std.specs.List.{AllPairs}
use Rattle.std.proofs.lemmas.List.Elements.{All-nil, All-cons, All-contains}
use Rattle.std.proofs.lemmas.List.Folds.{Any-from_list_any}
use Rattle.reg_core.specs.declared.refusal.Refusal.TheVariants as no
use Rattle.reg_laws.proofs.Capabilities.{IsOne, each_is, is_one, is_in_use, apart}
use Rattle.reg_laws.proofs.Lines.Turns.{By, fails}
use Rattle.reg_laws.specs.AnswerLines.{refuses, is_there, ◌or_else◌, accepted}
use Rattle.reg_laws.specs.CommandLines.{IsChosen, IsOwnChosen, AreSeveral, NoneIsChosen}

module _ (w : World) (chosen : CapRow → Bool) where
  abbrev rows : List CapRow
  rows = caps_that chosen w.caps

  is_among : (row : CapRow) → Contains rows row → IsChosen w chosen row.digest
  is_among row h =
      let is = All-contains (IsOne chosen w.caps) rows row (each_is chosen w.caps) h in
      (row.cap, is.0, is.1)

  -- the token in use is among them
  own_is : (in_use : List ℕ) → has_token in_use rows ≡ true → IsOwnChosen w chosen (Some in_use)
  own_is in_use own =
      let at = Any-from_list_any (λ row. same_text row.digest in_use) rows own in
      let same = (bytes_eq-Decides at.1.digest in_use).0 at.4 in (
        in_use,
        refl,
        subst (IsChosen w chosen) same (is_among at.1 (at.0, at.2, at.3)),
      )

  is_own : (in_use : List ℕ) → IsOwnChosen w chosen (Some in_use) → has_token in_use rows ≡ true
  is_own in_use own =
      let is = own.1 in
      let same : own.0 ≡ in_use = cc in
      let found = subst (IsChosen w chosen) same own.2 in
      is_in_use chosen w.caps in_use found.0 found.1 found.2

  -- how many there are
  none_is : (digest : List ℕ) → [] ≡ rows → ¬ (IsChosen w chosen digest)
  none_is digest is found =
      let at = subst (λ rows. Contains rows (cap_row digest found.0)) (sym is)
      (is_one chosen w.caps digest found.0 found.1 found.2) in
      let inside = at.1 in
      omega (arith, inside)

  first_is : (row : CapRow) (more : List CapRow) → row ∷ more ≡ rows → IsChosen w chosen row.digest
  first_is row more is =
      is_among row (subst (λ rows. Contains rows row) is (0, omega arith, refl))

  one_is : (row : CapRow) (digest : List ℕ) → row ∷ [] ≡ rows → IsChosen w chosen digest
      → row.digest ≡ digest
  one_is row digest is found =
      All-contains (λ only. row.digest ≡ only.digest) (row ∷ []) (cap_row digest found.0)
      (All-cons (λ only. row.digest ≡ only.digest) row [] refl
      (All-nil (λ only. row.digest ≡ only.digest)))
      (subst (λ rows. Contains rows (cap_row digest found.0)) (sym is)
      (is_one chosen w.caps digest found.0 found.1 found.2))

  several_are : (row other : CapRow) (more : List CapRow) → row ∷ other ∷ more ≡ rows
      → AreSeveral w chosen
  several_are row other more is = (
    row.digest,
    other.digest,
    λ same. both_ways (eq_by_cmp text_cmp row.digest other.digest)
        (subst (AllPairs (λ a b. eq_by_cmp text_cmp a.digest b.digest ≡ false)) (sym is)
        (apart chosen w.caps) 0 1 row (omega arith) (omega arith))
        (ap (eq_by_cmp text_cmp row.digest) (sym same)
        ∙ (eq_by_cmp_equiv text_keys.total).refl row.digest),
    first_is row (other ∷ more) is,
    is_among other (subst (λ rows. Contains rows other) is (1, omega arith, refl)),
  )

  -- ---- Lines

  one_goes : (given : List CapRow) → given ≡ rows → (told : Decision → Told)
      → By w (refuses no.Several (AreSeveral w chosen) or_else is_there (NoneIsChosen w chosen)
      or_else accepted) (by_rule (one_rule given) told)
  one_goes [] is told =
      inr (
        (λ several. none_is several.0 is several.3),
        inl ((λ digest. none_is digest is), refl, refl),
      )
  one_goes (row ∷ []) is told =
      inr (
        (λ two. two.2 (sym (one_is row two.0 is two.3) ∙ one_is row two.1 is two.4)),
        inr ((λ none. none row.digest (first_is row [] is)), refl),
      )
  one_goes (row ∷ other ∷ more) is told = inl (several_are row other more is, refl)

  all_goes : (given : List CapRow) → given ≡ rows → (told : Decision → Told)
      → By w (is_there (NoneIsChosen w chosen) or_else accepted)
      (by_rule (Ok (all_rule given)) told)
  all_goes [] is told = inl ((λ digest. none_is digest is), refl, refl)
  all_goes (row ∷ more) is told = inr ((λ none. none row.digest (first_is row more is)), refl)

  -- those that begin with a clerk's digits
  pub revoke_digits_goes : (in_use : List ℕ) (told : Decision → Told)
      → By w (refuses no.Own (IsOwnChosen w chosen (Some in_use))
      or_else refuses no.Several (AreSeveral w chosen)
      or_else is_there (NoneIsChosen w chosen) or_else accepted)
      (by_rule (revoke_digits_rule in_use rows) told)
  revoke_digits_goes in_use told =
      by_test (λ r. By w (refuses no.Own (IsOwnChosen w chosen (Some in_use))
      or_else refuses no.Several (AreSeveral w chosen)
      or_else is_there (NoneIsChosen w chosen) or_else accepted) (by_rule r told))
      (has_token in_use rows) (Err no.Own) (one_rule rows)
      (λ own. inl (own_is in_use own, refl))
      (λ other. inr (fails (has_token in_use rows) (is_own in_use) other, one_goes rows refl told))

  -- those of an account
  pub revoke_account_goes : (in_use : List ℕ) (told : Decision → Told)
      → By w (refuses no.Own (IsOwnChosen w chosen (Some in_use))
      or_else is_there (NoneIsChosen w chosen) or_else accepted)
      (by_rule (revoke_account_rule in_use rows) told)
  revoke_account_goes in_use told =
      by_test (λ r. By w (refuses no.Own (IsOwnChosen w chosen (Some in_use))
      or_else is_there (NoneIsChosen w chosen) or_else accepted) (by_rule r told))
      (has_token in_use rows) (Err no.Own) (Ok (all_rule rows))
      (λ own. inl (own_is in_use own, refl))
      (λ other. inr (fails (has_token in_use rows) (is_own in_use) other, all_goes rows refl told))
