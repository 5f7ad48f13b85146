-- Capabilities without some of them; those that pass a test, and what is so once they have gone.
use Rattle.std.proofs.Common.{◌≡◌, ℕ, suc, Bool, true, false, cond, ◌||◌, List, [], ◌∷◌, map, filter, refl, sym, ap, subst, ◌∙◌, arith}
use Rattle.std.specs.Prelude.{Option, Some, None, All, Contains}
use Rattle.std.specs.FinMap.{FinMap, get, entries, remove}
use Rattle.std.specs.List.{AllPairs, list_any}
use Rattle.reg_core.proofs.Common.{false_from_ne_true, eq_by_cmp, eq_by_cmp_equiv, both_ways, text_cmp}
use Rattle.reg_core.proofs.Common.{same_text, text_keys, tied, Contains-map, Contains-entries}
use Rattle.reg_core.proofs.Common.{ascending-entries, get-at_remove, cap_row, cap_rows, caps_that}
use Rattle.reg_core.proofs.Common.{TakesJust, HaveGone, has_token, World, without}
use Rattle.reg_laws.proofs.Types.{Cap, CapRow}
use Rattle.reg_core.proofs.Common.{same_text-itself}
use Rattle.std.proofs.lemmas.List.{get_or-map, length-map}
use Rattle.std.proofs.lemmas.List.Elements.{All-nil, All-cons, All-head, All-weaker, All-map, All-contains, filter_passes}
use Rattle.std.proofs.lemmas.List.Folds.{list_any_none, list_any_at}
use Rattle.std.proofs.lemmas.List.Kept.{AllPairs-filter}
use Rattle.std.proofs.lemmas.Map.Keys.{IsDistinct-from_sorted, apart_from_distinct}
use Rattle.reg_core.proofs.Chosen.{chosen_there}

-- ---- Without some of them

-- the digest is among these
abbrev is_among : List (List ℕ) → List ℕ → Bool
is_among digests digest = list_any (eq_by_cmp text_cmp digest) digests

none_twice : (first more : Bool) (there : Option Cap)
    → cond more None (cond first None there) ≡ cond (first || more) None there
none_twice true true there = refl
none_twice true false there = refl
none_twice false more there = refl

never : (b : Bool) → cond {A = Option Cap} b None None ≡ None
never true = refl
never false = refl

-- what is left at a digest
get-without : (digests : List (List ℕ)) (caps : FinMap text_cmp Cap) (digest : List ℕ)
    → get (without digests caps) digest ≡ cond (is_among digests digest) None (get caps digest)
get-without [] caps digest = refl
get-without (gone ∷ digests) caps digest =
    get-without digests (remove caps gone) digest
    ∙ ap (cond (is_among digests digest) None) (get-at_remove text_keys caps gone digest)
    ∙ none_twice (eq_by_cmp text_cmp digest gone) (is_among digests digest) (get caps digest)

-- ---- Those that pass a test

-- what passes a test is among those of a list that do
pub passing : {A : Type 0} (test : A → Bool) (xs : List A)
    → All (λ x. test x ≡ true → Contains (filter test xs) x) xs
passing test [] = All-nil (λ x. test x ≡ true → Contains (filter test []) x)
passing {A} test (y ∷ ys) =
    All-cons Is y ys
    (λ t. subst (λ b. Contains (cond b (y ∷ rest) rest) y) (sym t) (0, omega arith, refl))
    (All-weaker (λ x. test x ≡ true → Contains rest x) Is (λ x is t. later x (test y) (is t)) ys
    (passing test ys))
  where
    rest : List A
    rest = filter test ys

    Is : A → Type 0
    Is x = test x ≡ true → Contains (filter test (y ∷ ys)) x

    later : (x : A) (b : Bool) → Contains rest x → Contains (cond b (y ∷ rest) rest) x
    later x true h = let inside = h.1 in (suc h.0, omega (arith, inside), h.2)
    later x false h = h

module _ (chosen : CapRow → Bool) (caps : FinMap text_cmp Cap) where
  abbrev row : List ℕ × Cap → CapRow
  row e = cap_row e.0 e.1

  abbrev rows : List CapRow
  rows = caps_that chosen caps

  abbrev digests : List (List ℕ)
  digests = map (λ row. row.digest) rows

  -- the row is there, and passes
  abbrev pub IsOne : CapRow → Type 0
  IsOne row = (get caps row.digest ≡ Some row.cap) × (chosen row ≡ true)

  -- each of them is one
  pub each_is : All IsOne rows
  each_is k d inside =
      (chosen_there caps chosen k d inside, filter_passes chosen (cap_rows caps) k d inside)

  -- so there is none if none passes
  pub none_are : ((digest : List ℕ) (cap : Cap) → get caps digest ≡ Some cap
      → chosen (cap_row digest cap) ≡ false) → rows ≡ []
  none_are none = by rows refl
    where
      by : (found : List CapRow) → rows ≡ found → found ≡ []
      by [] is = refl
      by (row ∷ more) is =
          let first = All-head IsOne row more (subst (All IsOne) is each_is) in
          absurd (both_ways (chosen row) (none row.digest row.cap first.0) first.1)

  -- and each one is among them
  pub is_one : (digest : List ℕ) (cap : Cap) → get caps digest ≡ Some cap
      → chosen (cap_row digest cap) ≡ true → Contains rows (cap_row digest cap)
  is_one digest cap is =
      All-contains (λ row. chosen row ≡ true → Contains rows row) (cap_rows caps)
      (cap_row digest cap) (passing chosen (cap_rows caps))
      (Contains-map row (entries caps) (digest, cap)
      (Contains-entries text_keys caps digest cap is))

  -- the token in use is among them if its capability passes
  pub is_in_use : (in_use : List ℕ) (cap : Cap) → get caps in_use ≡ Some cap
      → chosen (cap_row in_use cap) ≡ true → has_token in_use rows ≡ true
  is_in_use in_use cap is passes =
      let at = is_one in_use cap is passes in
      list_any_at (λ row. same_text row.digest in_use) rows at.0 (cap_row in_use cap) at.1
      (ap (λ (row : CapRow). same_text row.digest in_use) at.2 ∙ same_text-itself in_use)

  -- no two of them have one digest
  pub apart : AllPairs (λ a b. eq_by_cmp text_cmp a.digest b.digest ≡ false) rows
  apart =
      AllPairs-filter (λ a b. eq_by_cmp text_cmp a.digest b.digest ≡ false) chosen (cap_rows caps)
      (λ i j d below inside.
      let long = length-map (cap_rows caps) (λ row. row.digest) in
      let at = λ (k : ℕ). get_or-map (λ row. row.digest) (cap_rows caps) k d d.digest in
      let at_i = at i (omega (arith, below, inside)) in
      let at_j = at j inside in
      sym (λ t. eq_by_cmp text_cmp (at_i t) (at_j t))
      ∙ apart_from_distinct (eq_by_cmp text_cmp) (map (λ row. row.digest) (cap_rows caps)) i j
      d.digest
      (IsDistinct-from_sorted text_cmp _
      (ascending-entries text_cmp row (λ row. row.digest) (λ e. refl) caps))
      below (omega (arith, inside, long)))

  -- ---- Once they have gone

  is_gone : (row : CapRow) → Contains rows row → is_among digests row.digest ≡ true
  is_gone row h =
      let at = Contains-map (λ row. row.digest) rows row h in
      list_any_at (eq_by_cmp text_cmp row.digest) digests at.0 row.digest at.1
      (ap (eq_by_cmp text_cmp row.digest) at.2 ∙ (eq_by_cmp_equiv text_keys.total).refl row.digest)

  is_left : (digest : List ℕ) (cap : Cap) → get caps digest ≡ Some cap
      → chosen (cap_row digest cap) ≡ false → is_among digests digest ≡ false
  is_left digest cap is fails =
      list_any_none (eq_by_cmp text_cmp digest) digests
      (All-map (λ other. eq_by_cmp text_cmp digest other ≡ false) (λ row. row.digest) rows
      (All-weaker IsOne (λ row. eq_by_cmp text_cmp digest row.digest ≡ false)
      (λ row has. false_from_ne_true (eq_by_cmp text_cmp digest row.digest) (other row has)) rows
      each_is))
    where
      other : (row : CapRow) → IsOne row → ¬ (eq_by_cmp text_cmp digest row.digest ≡ true)
      other row has t =
          let key : digest ≡ row.digest = tied text_keys digest row.digest t in
          let both : Some cap ≡ Some row.cap = sym is ∙ ap (get caps) key ∙ has.0 in
          let value : cap ≡ row.cap = cc in
          both_ways (chosen (cap_row digest cap)) fails
          ((λ i. chosen (cap_row (key i) (value i))) ∙ has.1)

  -- just these have gone
  pub takes_just : TakesJust caps (without digests caps) chosen rows
  takes_just = record {
    told = refl;
    gone = λ digest cap is passes.
        get-without digests caps digest
        ∙ ap (λ b. cond b None (get caps digest))
        (is_gone (cap_row digest cap) (is_one digest cap is passes));
    others = λ digest cap is fails.
        get-without digests caps digest
        ∙ ap (λ b. cond b None (get caps digest)) (is_left digest cap is fails) ∙ is;
    none = λ digest is.
        get-without digests caps digest ∙ ap (cond (is_among digests digest) None) is
        ∙ never (is_among digests digest);
  }

-- so they have gone
pub have_gone : (w : World) (old : FinMap text_cmp Cap) (chosen : CapRow → Bool)
    (rows : List CapRow) → TakesJust old w.caps chosen rows → HaveGone w chosen rows
have_gone w old chosen rows takes = record {
  only =
      subst (All (λ row. chosen row ≡ true)) (sym takes.told)
      (filter_passes chosen (cap_rows old));
  none = λ digest cap is. before digest cap is (get old digest) refl;
}
  where
    before : (digest : List ℕ) (cap : Cap) → get w.caps digest ≡ Some cap → (there : Option Cap)
        → get old digest ≡ there → chosen (cap_row digest cap) ≡ false
    before digest cap is None was = let none = takes.none digest was in absurd (cc)
    before digest cap is (Some had) was = by (chosen (cap_row digest had)) refl
      where
        by : (b : Bool) → chosen (cap_row digest had) ≡ b → chosen (cap_row digest cap) ≡ false
        by true t = let none = takes.gone digest had was t in absurd (cc)
        by false t =
            let left = takes.others digest had was t in
            let same : cap ≡ had = cc in
            ap (λ c. chosen (cap_row digest c)) same ∙ t
