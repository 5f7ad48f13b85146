-- What the requests of an import are allowed.
use Rattle.std.proofs.Common.{◌≡◌, ℕ, Bool, true, false, List, refl}
use Rattle.std.specs.Prelude.{Some, None, Ok, IsNone, nat_lt}
use Rattle.std.specs.Cmp.{second_so}
use Rattle.std.specs.FinMap.{get}
use Rattle.std.proofs.lemmas.Bool.{ltb-true}
use Rattle.reg_early.specs.EarlyRequirements.{early_unmet}
use Rattle.reg_early.specs.declared.evidence.EarlyEvidence.{EarlyEvidence}
use Rattle.reg_early.specs.declared.term.Term.{Term}
use Rattle.reg_ranges.specs.Requirements.{first_item, is_closed_policy, is_expert_policy, unmet}
use Rattle.reg_ranges.specs.Tables.{IsPartition, Table, treatment_of}
use Rattle.reg_ranges.specs.declared.evidence.Evidence.{Evidence}
use Rattle.reg_ranges.specs.declared.policy.Policy.{Policy}
use Rattle.reg_ranges.specs.declared.policy.Policy.TheVariants as policy
use Rattle.reg_ranges.specs.declared.policy.Treatment.TheVariants.{Under}
use Rattle.reg_ranges.proofs.Treatments.{treatment_above}
use Rattle.reg_core.specs.Allowance.{allowance_on, entry_asked, entry_asked_early, entry_kept, ground_of}
use Rattle.reg_core.specs.Award.{awarded_entry, renewed}
use Rattle.reg_core.specs.Names.{is_name}
use Rattle.reg_core.specs.Registry.{has_table_form}
use Rattle.reg_core.specs.View.{published}
use Rattle.reg_core.specs.WellKept.{WellKept}
use Rattle.reg_core.specs.World.{World}
use Rattle.reg_core.specs.declared.ask.Ask.TheVariants as ask
use Rattle.reg_core.specs.declared.ask.CodeAsk.{CodeAsk}
use Rattle.reg_core.specs.declared.ask.EarlyAsk.{EarlyAsk}
use Rattle.reg_core.specs.declared.ask.Want.TheVariants.{Value}
use Rattle.reg_core.specs.declared.entry.Registration.{Registration}
use Rattle.reg_core.proofs.Checks.{table_partition}
use Rattle.reg_core.proofs.SamenessIsDecided.{same_text-itself}

-- a policy of which all is met assigns values one by one
pub open_for_good : (p : Policy) (e : Evidence) → first_item (unmet p e) ≡ None
    → is_closed_policy p ≡ false
open_for_good policy.PrivateUse e h = absurd (cc)
open_for_good policy.ExperimentalUse e h = absurd (cc)
open_for_good policy.HierarchicalAllocation e h = absurd (cc)
open_for_good policy.FirstComeFirstServed e h = refl
open_for_good policy.ExpertReview e h = refl
open_for_good policy.SpecificationRequired e h = refl
open_for_good policy.RfcRequired e h = refl
open_for_good policy.IetfReview e h = refl
open_for_good policy.StandardsAction e h = refl
open_for_good policy.IesgApproval e h = refl

pub open_early : (p : Policy) (e : EarlyEvidence) → first_item (early_unmet p e) ≡ None
    → is_closed_policy p ≡ false
open_early policy.PrivateUse e h = absurd (cc)
open_early policy.ExperimentalUse e h = absurd (cc)
open_early policy.HierarchicalAllocation e h = absurd (cc)
open_early policy.FirstComeFirstServed e h = refl
open_early policy.ExpertReview e h = refl
open_early policy.SpecificationRequired e h = refl
open_early policy.RfcRequired e h = refl
open_early policy.IetfReview e h = refl
open_early policy.StandardsAction e h = refl
open_early policy.IesgApproval e h = refl

-- a value with a treatment is not above the largest
pub not_above : (w : World) → WellKept w → (name : List ℕ) (table : Table) (value : ℕ) (p : Policy)
    → get w.registries name ≡ Some table → treatment_of table value ≡ Some (Under p)
    → nat_lt table.max value ≡ false
not_above w kept name table value p defined treated = by (nat_lt table.max value) refl
  where
    partition : IsPartition table
    partition = table_partition table
        (second_so (is_name name) (has_table_form table) (kept.registries name table defined))

    by : (b : Bool) → nat_lt table.max value ≡ b → nat_lt table.max value ≡ false
    by false is = is
    by true is =
        let none : IsNone (treatment_of table value) =
        (treatment_above table partition value).1 (ltb-true table.max value is) in
        absurd (let gone = rw treated at none in cc)

module _ (w : World) (account registry : List ℕ) (value : ℕ) (table : Table) (p : Policy)
    (defined : get w.registries registry ≡ Some table)
    (treated : treatment_of table value ≡ Some (Under p))
    (below : nat_lt table.max value ≡ false) where
  -- a value for good
  pub allowed_for_good : (label : List ℕ) (e : Evidence) → first_item (unmet p e) ≡ None
      → get w.entries (registry, value) ≡ None
      → let asked : CodeAsk =
      record { registry = registry; want = Value value; label = label; evidence = e } in
      allowance_on (ground_of (published w) (ask.Code asked)) account (ask.Code asked)
      ≡ Ok (record {
        award = awarded_entry (entry_asked account asked value);
        needs_advice = is_expert_policy p;
      })
  allowed_for_good label e met free =
      let opens = open_for_good p e met in
      rw (defined, below, treated, opens, met, free) refl

  -- a value that is allocated early
  pub allowed_early : (label : List ℕ) (e : EarlyEvidence) → first_item (early_unmet p e) ≡ None
      → get w.entries (registry, value) ≡ None
      → let asked : EarlyAsk =
      record { registry = registry; want = Value value; label = label; evidence = e } in
      allowance_on (ground_of (published w) (ask.Early asked)) account (ask.Early asked)
      ≡ Ok (record {
        award = awarded_entry (entry_asked_early account asked value);
        needs_advice = is_expert_policy p;
      })
  allowed_early label e met free =
      let opens = open_early p e met in
      rw (defined, below, treated, opens, met, free) refl

  -- the renewal of one's own
  pub allowed_renewal : (label : List ℕ) (first expires : ℕ) (held : Bool) (e : EarlyEvidence)
      → first_item (early_unmet p e) ≡ None
      → let term : Term =
      record { first = first; expires = Some expires; renewed = false; held = held } in
      let own : Registration = record { label = label; assignee = account; term = term } in
      get w.entries (registry, value) ≡ Some own
      → let asked = ask.Renew (record {
        registry = registry;
        value = value;
        evidence = e;
        iesg = None;
      }) in
      allowance_on (ground_of (published w) asked) account asked
      ≡ Ok (record {
        award = awarded_entry (entry_kept registry value own (renewed term));
        needs_advice = false;
      })
  allowed_renewal label first expires held e met there =
      let opens = open_early p e met in
      let same = same_text-itself account in
      rw (defined, below, treated, opens, met, there, same) refl
