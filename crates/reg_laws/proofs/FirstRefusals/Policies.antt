-- The registry, the policy that decides, and the evidence that it asks for are checked in turn.
use Rattle.std.proofs.Common.{◌≡◌, ◌<◌, ◌≤◌, ℕ, Bool, true, false, cond, not, List, [], ◌∷◌, ◌⊎◌, inl, inr, refl, sym, ap, subst, ◌∙◌, arith}
use Rattle.std.specs.Prelude.{Option, Some, None, Result, Ok, Err, Contains, filter, is_some, nat_lt, if◌then◌else◌}
use Rattle.std.specs.List.{list_any}
use Rattle.std.proofs.lemmas.Bool.Decides.{nat_tests}
use Rattle.std.proofs.lemmas.List.Elements.{All-contains, filter_passes}
use Rattle.reg_early.specs.EarlyRequirements.{is_eligible, early_items, early_unmet, is_early_met}
use Rattle.reg_core.proofs.Common.{not-true, EarlyEvidence, first_item, is_closed_policy, same_treatment}
use Rattle.reg_core.proofs.Common.{Table, treatment_of, EvidenceItem, Policy, Ground, or_refusal}
use Rattle.reg_core.proofs.Common.{open_policy, policy_for, is_met, is_met_early}
use Rattle.reg_laws.proofs.Types.{Ask, Want, Refusal}
use Rattle.reg_ranges.specs.declared.evidence.Item.TheVariants as item
use Rattle.reg_ranges.specs.declared.policy.Treatment.{Treatment}
use Rattle.reg_ranges.specs.declared.policy.Treatment.TheVariants.{Under, Reserved}
use Rattle.reg_core.specs.FirstRefusals.{want_of, Decides, InTable, UnderPolicy, IsAbove, IsShut, IsNotEarly, Lacks, Applies, line_of}
use Rattle.reg_core.specs.declared.ask.Want.TheVariants.{Value, Least}
use Rattle.reg_core.specs.declared.refusal.Refusal.TheVariants as no
use Rattle.reg_laws.proofs.FirstRefusals.Turns.{IsFair, refuses, passes, clear_on}

module _ (rows : Ground) (account : List ℕ) (ask : Ask) (want : Want)
    (wants : want_of ask ≡ Some want) where
  pub table_check : IsFair rows account ask 7 8 (or_refusal no.Registry rows.table)
  table_check = by rows.table refl
    where
      by : (existing : Option Table) → rows.table ≡ existing
          → IsFair rows account ask 7 8 (or_refusal no.Registry existing)
      by None gone =
          refuses rows account ask 7 8 no.Registry (ap is_some wants, gone) (λ clear. clear) _ refl
      by (Some table) is_there = passes rows account ask 7 8 table (clear_on rows account ask 7 8 none) _ refl
        where
          none : (other : Refusal) → Applies rows account ask other → 7 ≤ line_of other
              → line_of other < 8 → ⊥
          none no.Registry applies low high = let gone = applies.1 in absurd (cc)
          none other applies low high = omega arith

module _ (rows : Ground) (account : List ℕ) (ask : Ask) (want : Want) (table : Table)
    (wants : want_of ask ≡ Some want) (is_there : rows.table ≡ Some table) where
  in_table : (P : Table → Want → Type 0) → P table want → InTable P rows.table (want_of ask)
  in_table P so =
      subst (λ (x : Option Table × Option Want). InTable P x.0 x.1)
      (λ i. (sym is_there i, sym wants i)) so

  of_table : (P : Table → Want → Type 0) → InTable P rows.table (want_of ask) → P table want
  of_table P so =
      subst (λ (x : Option Table × Option Want). InTable P x.0 x.1)
      (λ i. (is_there i, wants i)) so

-- where nothing is wanted of a registry nothing is so of one
pub of_none : (P : Table → Want → Type 0) (existing : Option Table) → ¬ (InTable P existing None)
of_none P None so = so
of_none P (Some table) so = so

-- two policies that decide are one
pub decides_one : (table : Table) (want : Want) (p q : Policy) → Decides table want p
    → Decides table want q → p ≡ q
decides_one table (Value v) p q d e = let both : Some (Under p) ≡ Some (Under q) = sym d ∙ e in cc
decides_one table (Least asked) p q d e = sym d.0 ∙ e.0

-- what comes of looking for the policy that decides
abbrev pub PolicyComes : Table → Want → Result Policy Refusal → Type 0
PolicyComes table want r =
    ((r ≡ Err no.Range) × IsAbove table want)
    ⊎ (((r ≡ Err no.Policy) × IsShut table want × (¬ (IsAbove table want)))
    ⊎ ((policy : Policy) × (r ≡ Ok policy) × Decides table want policy
    × (is_closed_policy policy ≡ false) × (¬ (IsAbove table want))))

policy_opens : (table : Table) (want : Want) (policy : Policy) → Decides table want policy
    → ¬ (IsAbove table want) → PolicyComes table want (open_policy (Some (Under policy)))
policy_opens table want policy decides below = by (is_closed_policy policy) refl
  where
    by : (b : Bool) → is_closed_policy policy ≡ b
        → PolicyComes table want (if b then Err no.Policy else Ok policy)
    by true closed =
        let shut : IsShut table want =
        λ other its. ap is_closed_policy (decides_one table want other policy its decides) ∙ closed in
        inr (inl (refl, shut, below))
    by false one_by_one = inr (inr (policy, refl, decides, one_by_one, below))

pub policy_comes : (table : Table) (want : Want) → PolicyComes table want (policy_for table want)
policy_comes table (Value v) = at (nat_lt table.max v) (treatment_of table v) refl refl
  where
    within : nat_lt table.max v ≡ false → ¬ (IsAbove table (Value v))
    within t above = grind (arith, nat_tests, t, above)

    at : (b : Bool) (o : Option Treatment) → nat_lt table.max v ≡ b → treatment_of table v ≡ o
        → PolicyComes table (Value v) (if b then Err no.Range else open_policy o)
    at true o t is = inl (refl, grind (arith, nat_tests, t))
    at false None t is =
        inr (inl (refl, (λ policy its. let both = sym is ∙ its in absurd (cc)), within t))
    at false (Some Reserved) t is =
        inr (inl (refl, (λ policy its. let both = sym is ∙ its in absurd (cc)), within t))
    at false (Some (Under policy)) t is = policy_opens table (Value v) policy is (within t)
policy_comes table (Least asked) =
    at (list_any (λ range. same_treatment range.treatment (Under asked)) table.ranges) refl
  where
    at : (b : Bool)
        → list_any (λ range. same_treatment range.treatment (Under asked)) table.ranges ≡ b
        → PolicyComes table (Least asked) (open_policy (if b then Some (Under asked) else None))
    at true t = policy_opens table (Least asked) asked (refl, t) (λ above. above)
    at false t =
        inr (inl (refl, (λ policy its. let there = its.1 in absurd (cc)), (λ above. above)))

-- the policy that was found decides, and is one under which values are assigned
pub policy_found : (table : Table) (want : Want) (policy : Policy) → policy_for table want ≡ Ok policy
    → Decides table want policy × (is_closed_policy policy ≡ false)
policy_found table want policy h =
    elim (policy_comes table want) [
      | inl above ↦ let both = sym h ∙ above.0 in absurd (cc)
      | inr (inl shut) ↦ let both = sym h ∙ shut.0 in absurd (cc)
      | inr (inr is) ↦
          let both = sym is.1 ∙ h in
          let same : is.0 ≡ policy = cc in
          subst (λ p. Decides table want p × (is_closed_policy p ≡ false)) same (is.2, is.3)
    ]

-- ---- Evidence

-- the first item of a list is in it
first_is_in : (items : List EvidenceItem) (i : EvidenceItem) → first_item items ≡ Some i → Contains items i
first_is_in [] i h = absurd (cc)
first_is_in (j ∷ rest) i h = let same : j ≡ i = cc in (0, omega arith, same)

none_is_first : (items : List EvidenceItem) → first_item items ≡ None → items ≡ []
none_is_first [] h = refl
none_is_first (j ∷ rest) h = absurd (cc)

none_is_in : (items : List EvidenceItem) (i : EvidenceItem) → items ≡ [] → ¬ (Contains items i)
none_is_in [] i h has = let below = has.1 in omega arith
none_is_in (j ∷ rest) i h has = absurd (cc)

-- the first that is kept passes the test
first_passes : (test : EvidenceItem → Bool) (items : List EvidenceItem) (i : EvidenceItem)
    → first_item (filter test items) ≡ Some i → test i ≡ true
first_passes test items i h =
    All-contains (λ i. test i ≡ true) (filter test items) i (filter_passes test items)
    (first_is_in (filter test items) i h)

-- that nothing is allocated early is the first that is missing of the evidence
pub not_eligible : (policy : Policy) (e : EarlyEvidence) → first_item (early_unmet policy e) ≡ Some item.Policy
    → is_eligible policy e.will_be_rfc ≡ false
not_eligible policy e h =
    not-true (is_eligible policy e.will_be_rfc)
    (first_passes (λ i. not (is_early_met policy e i)) early_items item.Policy h)

-- the items after it
abbrev other_items : List EvidenceItem
other_items = item.Draft ∷ item.Stable ∷ item.Interest ∷ item.Chair ∷ item.Director ∷ []

pub first_not_eligible : (policy : Policy) (e : EarlyEvidence) → is_eligible policy e.will_be_rfc ≡ false
    → first_item (early_unmet policy e) ≡ Some item.Policy
first_not_eligible policy e h =
    ap (λ b. first_item (cond (not b)
    (item.Policy ∷ filter (λ i. not (is_early_met policy e i)) other_items)
    (filter (λ i. not (is_early_met policy e i)) other_items))) h

module _ (rows : Ground) (account : List ℕ) (ask : Ask) (want : Want) (table : Table)
    (wants : want_of ask ≡ Some want) (is_there : rows.table ≡ Some table) where
  pub policy_check : IsFair rows account ask 8 10 (policy_for table want)
  policy_check =
      elim (policy_comes table want) [
        | inl above ↦
            refuses rows account ask 8 10 no.Range
            (in_table rows account ask want table wants is_there IsAbove above.1) (λ clear. clear)
            (policy_for table want) above.0
        | inr (inl shut) ↦
            refuses rows account ask 8 10 no.Policy
            (in_table rows account ask want table wants is_there IsShut shut.1)
            (clear_on rows account ask 8 9 (not_above shut.2)) (policy_for table want) shut.0
        | inr (inr is) ↦
            passes rows account ask 8 10 is.0
            (clear_on rows account ask 8 10 (not_shut is.4 is.0 is.2 is.3))
            (policy_for table want) is.1
      ]
    where
      not_above : ¬ (IsAbove table want) → (other : Refusal) → Applies rows account ask other
          → 8 ≤ line_of other → line_of other < 9 → ⊥
      not_above within no.Range applies low high =
          within (of_table rows account ask want table wants is_there IsAbove applies)
      not_above within other applies low high = omega arith

      not_shut : ¬ (IsAbove table want) → (policy : Policy) → Decides table want policy
          → is_closed_policy policy ≡ false → (other : Refusal) → Applies rows account ask other
          → 8 ≤ line_of other → line_of other < 10 → ⊥
      not_shut within policy decides one_by_one no.Range applies low high =
          within (of_table rows account ask want table wants is_there IsAbove applies)
      not_shut within policy decides one_by_one no.Policy applies low high =
          let closed =
          of_table rows account ask want table wants is_there IsShut applies policy decides in
          absurd (cc)
      not_shut within policy decides one_by_one other applies low high = omega arith

  module _ (policy : Policy) (decides : Decides table want policy) where
    -- what is so of a policy that decides is so of this one
    of_policy : (P : Policy → Type 0) → InTable (UnderPolicy P) rows.table (want_of ask) → P policy
    of_policy P so =
        let is = of_table rows account ask want table wants is_there (UnderPolicy P) so in
        subst P (decides_one table want is.0 policy is.1 decides) is.2

    to_policy : (P : Policy → Type 0) → P policy → InTable (UnderPolicy P) rows.table (want_of ask)
    to_policy P so =
        in_table rows account ask want table wants is_there (UnderPolicy P) (policy, decides, so)

    module _ (items : List EvidenceItem) (lacks : (i : EvidenceItem) → Contains items i → Lacks ask i policy)
        (lacking : (i : EvidenceItem) → Lacks ask i policy → Contains items i) where
      -- nothing is missing
      whole : first_item items ≡ None → ¬ (IsNotEarly ask policy) → (other : Refusal)
          → Applies rows account ask other → 10 ≤ line_of other → line_of other < 12 → ⊥
      whole none early no.Early applies low high = early (of_policy (IsNotEarly ask) applies)
      whole none early (no.Evidence i) applies low high =
          none_is_in items i (none_is_first items none) (lacking i (of_policy (Lacks ask i) applies))
      whole none early other applies low high = omega arith

      eligible : ¬ (IsNotEarly ask policy) → (other : Refusal) → Applies rows account ask other
          → 10 ≤ line_of other → line_of other < 11 → ⊥
      eligible early no.Early applies low high = early (of_policy (IsNotEarly ask) applies)
      eligible early other applies low high = omega arith

      -- the evidence of an assignment
      pub evidence_check : ¬ (IsNotEarly ask policy)
          → IsFair rows account ask 10 12 (is_met (first_item items))
      evidence_check early = by (first_item items) refl
        where
          by : (o : Option EvidenceItem) → first_item items ≡ o → IsFair rows account ask 10 12 (is_met o)
          by None is =
              passes rows account ask 10 12 tt (clear_on rows account ask 10 12 (whole is early)) _ refl
          by (Some i) is =
              refuses rows account ask 10 12 (no.Evidence i)
              (to_policy (Lacks ask i) (lacks i (first_is_in items i is)))
              (clear_on rows account ask 10 11 (eligible early)) _ refl

      -- the evidence of an early allocation
      pub early_check : (first_item items ≡ Some item.Policy → IsNotEarly ask policy)
          → (IsNotEarly ask policy → first_item items ≡ Some item.Policy)
          → IsFair rows account ask 10 12 (is_met_early (first_item items))
      early_check is_first first_is = by (first_item items) refl
        where
          by : (o : Option EvidenceItem) → first_item items ≡ o
              → IsFair rows account ask 10 12 (is_met_early o)
          by None is =
              passes rows account ask 10 12 tt
              (clear_on rows account ask 10 12
              (whole is (λ early. let first = first_is early in absurd (cc)))) _ refl
          by (Some item.Policy) is =
              refuses rows account ask 10 12 no.Early (to_policy (IsNotEarly ask) (is_first is))
              (λ clear. clear) _ refl
          by (Some i) is =
              refuses rows account ask 10 12 (no.Evidence i)
              (to_policy (Lacks ask i) (lacks i (first_is_in items i is)))
              (clear_on rows account ask 10 11
              (eligible (λ early. let first = first_is early in absurd (cc)))) _ refl
