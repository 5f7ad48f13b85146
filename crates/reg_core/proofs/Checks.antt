-- The checks that an allowance makes in turn, and what is so where each was met.
use Rattle.std.proofs.Common.{◌≡◌, ℕ, ◌<◌, ◌^◌, Bool, true, false, ◌&&◌, List, [], ◌∷◌, refl, ap, subst, ◌∙◌, arith}
use Rattle.std.specs.Prelude.{Option, Some, None, Result, Ok, Err, is_some, is_none, is_ok, nat_lt, if◌then◌else◌}
use Rattle.std.specs.List.{list_all, list_any}
use Rattle.std.specs.FinMap.{get}
use Rattle.std.specs.Cmp.{first_so, second_so}
use Rattle.std.proofs.lemmas.Bool.Decides.{nat_tests}
use Rattle.std.proofs.lemmas.Slice.Eq.{bytes_eq-Decides}
use Rattle.reg_maps.specs.Maps.{same_text}
use Rattle.reg_ranges.specs.Requirements.{first_item, is_closed_policy}
use Rattle.reg_ranges.specs.Sameness.{same_treatment}
use Rattle.reg_ranges.specs.Tables.{Table, IsPartition, treatment_of}
use Rattle.reg_ranges.specs.Faults.{first_fault}
use Rattle.reg_ranges.proofs.Partitions.{partition_from_none}
use Rattle.reg_ranges.proofs.Treatments.{treatment_above}
use Rattle.reg_ranges.specs.declared.policy.Policy.{Policy}
use Rattle.reg_ranges.specs.declared.policy.Treatment.{Treatment}
use Rattle.reg_ranges.specs.declared.policy.Treatment.TheVariants.{Under, Reserved}
use Rattle.reg_ranges.specs.declared.evidence.Item.{Item as EvidenceItem}
use Rattle.reg_ranges.specs.declared.evidence.Item.TheVariants as item
use Rattle.reg_core.specs.Allowance.{◌>>=◌, or_refusal, open_policy, policy_for, is_met, is_met_early, own_entry}
use Rattle.reg_core.specs.Ask.{has_note_form}
use Rattle.reg_core.specs.MayBeGiven.{IsUnder}
use Rattle.reg_core.specs.Names.{is_name}
use Rattle.reg_core.specs.Registry.{has_table_form, is_partition}
use Rattle.reg_core.specs.WellKept.{WellKept, is_open_at}
use Rattle.reg_core.specs.World.{World}
use Rattle.reg_core.specs.declared.entry.Registration.{Registration}
use Rattle.reg_core.specs.declared.ask.Want.TheVariants.{Value, Least}
use Rattle.reg_core.specs.declared.refusal.Refusal.{Refusal}
use Rattle.reg_core.specs.declared.refusal.Refusal.TheVariants as no
use Rattle.reg_core.proofs.Cases.{by_test}

-- ---- Checks in turn

pub went_on : {A B : Type 0} (x : Result A Refusal) (f : A → Result B Refusal) (y : B) → x >>= f ≡ Ok y
    → (a : A) × (x ≡ Ok a) × (f a ≡ Ok y)
went_on (Err e) f y h = absurd (cc)
went_on (Ok a) f y h = (a, refl, h)

pub was_some : {A : Type 0} (o : Option A) (refusal : Refusal) (x : A) → or_refusal refusal o ≡ Ok x
    → o ≡ Some x
was_some None refusal x h = absurd (cc)
was_some (Some y) refusal x h = let same : y ≡ x = cc in ap Some same

pub not_some : {A : Type 0} (o : Option A) → is_some o ≡ false → o ≡ None
not_some None h = refl
not_some (Some x) h = absurd (cc)

-- an own entry is there, and is the account's
pub own_is : (account : List ℕ) (existing : Option Registration) (a : Registration)
    → own_entry account existing ≡ Ok a → (existing ≡ Some a) × (a.assignee ≡ account)
own_is account None a h = absurd (cc)
own_is account (Some b) a h =
    by_test (λ r. r ≡ Ok a → (Some b ≡ Some a) × (a.assignee ≡ account))
    (same_text b.assignee account) (Ok b) (Err no.Entry)
    (λ own h. let same : b ≡ a = cc in (
      ap Some same,
      subst (λ (x : Registration). x.assignee ≡ account) same
          ((bytes_eq-Decides b.assignee account).0 own),
    ))
    (λ other h. absurd (cc))
    h

-- ---- Values that are assigned one by one

-- a policy by which values are assigned one by one
pub opened : (o : Option Treatment) (policy : Policy) → open_policy o ≡ Ok policy
    → (o ≡ Some (Under policy)) × (is_closed_policy policy ≡ false)
opened None policy h = absurd (cc)
opened (Some Reserved) policy h = absurd (cc)
opened (Some (Under p)) policy h =
    by_test
    (λ r. r ≡ Ok policy
    → (Some (Under p) ≡ Some (Under policy)) × (is_closed_policy policy ≡ false))
    (is_closed_policy p) (Err no.Policy) (Ok p)
    (λ closed h. absurd (cc))
    (λ is_open h. let same : p ≡ policy = cc in
    (ap (λ q. Some (Under q)) same, subst (λ q. is_closed_policy q ≡ false) same is_open))
    h

pub value_policy : (table : Table) (v : ℕ) (policy : Policy) → policy_for table (Value v) ≡ Ok policy
    → open_policy (treatment_of table v) ≡ Ok policy
value_policy table v policy =
    by_test (λ r. r ≡ Ok policy → open_policy (treatment_of table v) ≡ Ok policy)
    (nat_lt table.max v) (Err no.Range) (open_policy (treatment_of table v))
    (λ above h. absurd (cc)) (λ inside h. h)

pub least_policy : (table : Table) (least policy : Policy) → policy_for table (Least least) ≡ Ok policy
    → (least ≡ policy) × (is_closed_policy policy ≡ false)
least_policy table least policy =
    by_test
    (λ o. open_policy o ≡ Ok policy → (least ≡ policy) × (is_closed_policy policy ≡ false))
    (list_any (λ range. same_treatment range.treatment (Under least)) table.ranges)
    (Some (Under least)) None
    (λ there h.
    let is = opened (Some (Under least)) policy h in
    let under = is.0 in
    let same : least ≡ policy = cc in
    (same, is.1))
    (λ gone h. absurd (cc))

-- where no item is the first that is missing, none is
pub all_met : (items : List EvidenceItem) (met : Unit {0}) → is_met (first_item items) ≡ Ok met → items ≡ []
all_met [] met h = refl
all_met (i ∷ rest) met h = absurd (cc)

pub all_met_early : (items : List EvidenceItem) (met : Unit {0}) → is_met_early (first_item items) ≡ Ok met
    → items ≡ []
all_met_early [] met h = refl
all_met_early (i ∷ rest) met h = absurd (missing i h)
  where
    missing : (i : EvidenceItem) → is_met_early (Some i) ≡ Ok met → ⊥
    missing item.Policy h = absurd (cc)
    missing other h = absurd (cc)

-- a table has no fault, and is a partition
pub table_partition : (table : Table) → has_table_form table ≡ true → IsPartition table
table_partition table form =
    let no_fault =
    second_so (nat_lt table.max (2 ^ 32)) (is_partition table)
    (first_so (nat_lt table.max (2 ^ 32) && is_partition table)
    (list_all (λ range. has_note_form range.note) table.ranges) form) in
    partition_from_none table.max table.ranges
    (none_of (first_fault table.max table.ranges) no_fault)
  where
    none_of : {A : Type 0} (o : Option A) → is_none o ≡ true → o ≡ None
    none_of None h = refl
    none_of (Some x) h = absurd (cc)

no_treatment : (o : Option Treatment) → is_some o ≡ false → is_ok (open_policy o) ≡ true → ⊥
no_treatment None none is_open = absurd (cc)
no_treatment (Some t) none is_open = absurd (cc)

-- a value that is assigned one by one is at most the largest
pub open_below : (table : Table) (v : ℕ) → has_table_form table ≡ true
    → is_ok (open_policy (treatment_of table v)) ≡ true → v < 2 ^ 32
open_below table v form is_open =
    let bounded =
    first_so (nat_lt table.max (2 ^ 32)) (is_partition table)
    (first_so (nat_lt table.max (2 ^ 32) && is_partition table)
    (list_all (λ range. has_note_form range.note) table.ranges) form) in
    below (nat_lt table.max v) refl bounded
  where
    above : nat_lt table.max v ≡ true → ⊥
    above h =
        let larger : table.max < v = grind (arith, nat_tests, h) in
        let none = (treatment_above table (table_partition table form) v).1 larger in
        no_treatment (treatment_of table v) none is_open

    below : (b : Bool) → nat_lt table.max v ≡ b → nat_lt table.max (2 ^ 32) ≡ true → v < 2 ^ 32
    below true h bounded = absurd (above h)
    below false h bounded = grind (arith, nat_tests, h, bounded)

-- what lies under a policy by which values are assigned one by one is open, and below 2^32
is_open_policy : (policy : Policy) → is_closed_policy policy ≡ false
    → is_ok (open_policy (Some (Under policy))) ≡ true
is_open_policy policy one_by_one = ap (λ b. is_ok (if b then Err no.Policy else Ok policy)) one_by_one

pub under_is_open : (w : World) (registry : List ℕ) (v : ℕ) (policy : Policy)
    → IsUnder w registry v policy → is_open_at (get w.registries registry) v ≡ true
under_is_open w registry v policy under =
    ap (λ o. is_open_at o v) under.is_there ∙ ap (λ t. is_ok (open_policy t)) under.range
    ∙ is_open_policy policy under.one_by_one

pub under_is_below : (w : World) → WellKept w → (registry : List ℕ) (v : ℕ) (policy : Policy)
    → IsUnder w registry v policy → v < 2 ^ 32
under_is_below w kept registry v policy under =
    open_below under.table v
    (second_so (is_name registry) (has_table_form under.table)
    (kept.registries registry under.table under.is_there))
    (ap (λ t. is_ok (open_policy t)) under.range ∙ is_open_policy policy under.one_by_one)
