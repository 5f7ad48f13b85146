-- Which entries are due.
use Rattle.std.proofs.Common.{◌≡◌, ◌≤◌, ℕ, zero, suc, ◌+◌, ◌-◌, Bool, true, false, List, [], ◌∷◌, Option, Some, None, refl, sym, ap, ◌∙◌, subst, inl, inr, arith}
use Rattle.std.specs.Prelude.{Contains, filter_map, nat_le, option_map, if◌then◌else◌}
use Rattle.std.specs.List.{cons_option}
use Rattle.std.proofs.lemmas.Bool.{le-leb, leb-true}
use Rattle.std.proofs.lemmas.List.Elements.{Contains-append_cases, Contains-append_right}
use Rattle.reg_early.specs.declared.term.Status.{Status}
use Rattle.reg_early.specs.declared.term.Status.TheVariants.{Assigned, Temporary, Expired}
use Rattle.reg_client.specs.Allocation.{as_due, day_within, due_entry, expiry_at, expiry_within}
use Rattle.reg_client.specs.Laws.{AllocationsAreDue}

-- ---- What a list is filtered to

the-one : {X : Type 0} (x y : X) → Contains (x ∷ []) y → x ≡ y
the-one x y (zero, less, is) = is
the-one x y (suc k, less, is) = absurd (omega (arith, less))

first-in : {X : Type 0} (x : X) (xs : List X) → Contains (x ∷ xs) x
first-in x xs = (0, omega arith, refl)

module _ {X Y : Type 0} (h : X → Option Y) where
  from-first : (x : X) (o : Option Y) (xs : List X) (y : Y) → h x ≡ o
      → Contains (cons_option o (filter_map h xs)) y
      → (Contains (filter_map h xs) y → (z : X) × Contains xs z × (h z ≡ Some y))
      → (z : X) × Contains (x ∷ xs) z × (h z ≡ Some y)
  from-first x None xs y is has more =
      let later = more has in (later.0, Contains-append_right (x ∷ []) xs later.0 later.1, later.2)
  from-first x (Some z) xs y is has more = elim (Contains-append_cases (z ∷ []) (filter_map h xs) y has) [
    | inl here ↦ (x, first-in x xs, is ∙ ap Some (the-one z y here))
    | inr there ↦
        let later = more there in (later.0, Contains-append_right (x ∷ []) xs later.0 later.1, later.2)
  ]

  from-filter : (xs : List X) (y : Y) → Contains (filter_map h xs) y
      → (z : X) × Contains xs z × (h z ≡ Some y)
  from-filter [] y (k, less, is) = absurd (omega (arith, less))
  from-filter (x ∷ xs) y has = from-first x (h x) xs y refl has (from-filter xs y)

  into-first : (o : Option Y) (ys : List Y) (y : Y) → o ≡ Some y → Contains (cons_option o ys) y
  into-first None ys y is = absurd (cc)
  into-first (Some z) ys y is =
      let same : z ≡ y = cc in
      subst (λ (w : Y). Contains (w ∷ ys) y) (sym same) (first-in y ys)

  into-later : (o : Option Y) (ys : List Y) (y : Y) → Contains ys y → Contains (cons_option o ys) y
  into-later None ys y has = has
  into-later (Some z) ys y has = Contains-append_right (z ∷ []) ys y has

  into-filter : (xs : List X) (x : X) (y : Y) → Contains xs x → h x ≡ Some y
      → Contains (filter_map h xs) y
  into-filter [] x y (k, less, at) is = absurd (omega (arith, less))
  into-filter (z ∷ xs) x y has is = elim (Contains-append_cases (z ∷ []) xs x has) [
    | inl here ↦ into-first (h z) (filter_map h xs) y (ap h (the-one z x here) ∙ is)
    | inr there ↦ into-later (h z) (filter_map h xs) y (into-filter xs x y there is)
  ]

-- ---- One entry

within : (today days expiry day : ℕ) (b : Bool) → nat_le (expiry - today) days ≡ b
    → (if b then Some expiry else None) ≡ Some day → (expiry ≡ day) × (expiry ≤ today + days)
within today days expiry day true less is =
    let same : expiry ≡ day = cc in (same, omega (arith, leb-true (expiry - today) days less))
within today days expiry day false less is = absurd (cc)

day-of : (today days day : ℕ) (expires : Option ℕ) → day_within today days expires ≡ Some day
    → (expires ≡ Some day) × (day ≤ today + days)
day-of today days day None is = absurd (cc)
day-of today days day (Some expiry) is =
    let by = within today days expiry day (nat_le (expiry - today) days) refl is in
    (ap Some by.0, subst (λ (d : ℕ). d ≤ today + days) by.0 by.1)

status-of : (today days day : ℕ) (status : Status) (expires : Option ℕ)
    → expiry_at status today days expires ≡ Some day
    → (status ≡ Temporary) × (expires ≡ Some day) × (day ≤ today + days)
status-of today days day Assigned expires is = absurd (cc)
status-of today days day Temporary expires is =
    let by = day-of today days day expires is in (refl, by.0, by.1)
status-of today days day Expired expires is = absurd (cc)

due-day : (today days day : ℕ) (status : Status) (expires : Option ℕ) → status ≡ Temporary
    → expires ≡ Some day → day ≤ today + days → expiry_at status today days expires ≡ Some day
due-day today days day status expires temporary some soon =
    ap (λ (s : Status). expiry_at s today days expires) temporary
    ∙ ap (day_within today days) some
    ∙ (rw (le-leb (day - today) days (omega (arith, soon))) refl)

mapped : {X Y : Type 0} (f : X → Y) (o : Option X) (y : Y) → option_map f o ≡ Some y
    → (x : X) × (o ≡ Some x) × (y ≡ f x)
mapped f None y is = absurd (cc)
mapped f (Some x) y is = (x, refl, cc)

pub all-due : AllocationsAreDue
all-due today days page one = (
  λ has.
      let from = from-filter (due_entry page.name today days) page.entries one has in
      let day = mapped (as_due page.name from.0) (expiry_within today days from.0) one from.2 in
      let by = status-of today days day.0 from.0.status from.0.term.expires day.1 in
      record {
        entry = from.0;
        expiry = day.0;
        listed = from.1;
        temporary = by.0;
        expires = by.1;
        soon = by.2;
        told = day.2;
      },
  λ of.
      into-filter (due_entry page.name today days) page.entries of.entry one of.listed
      (ap (option_map (as_due page.name of.entry))
      (due-day today days of.expiry of.entry.status of.entry.term.expires of.temporary of.expires of.soon)
      ∙ ap Some (sym of.told)),
)
