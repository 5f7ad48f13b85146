-- What an office needs for the lines of an entry.
use Rattle.std.proofs.Common.{◌≡◌, ◌∙◌, ℕ, Bool, true, false, List, refl, sym, ap}
use Rattle.std.specs.Prelude.{Option, Some, None, IsSome, is_some, codes, nat_lt}
use Rattle.std.specs.FinMap.{get}
use Rattle.std.proofs.lemmas.Slice.Eq.{bytes_eq-Decides}
use Rattle.reg_maps.specs.Maps.{same_text}
use Rattle.reg_core.specs.WellKept.{WellKept}
use Rattle.reg_core.specs.World.{World, RequestName}
use Rattle.reg_core.specs.declared.advice.Advice.{Advice}
use Rattle.reg_import.specs.Imported.{FilingIsNew, IsReadyFor, IsUnderPolicy, RenewalsAreNew}
use Rattle.reg_import.specs.Lines.{entry_filing, reference_of}
use Rattle.reg_import.specs.declared.entry.ListedEntry.{ListedEntry}
use Rattle.reg_import.specs.declared.import.Import.{Import}
use Rattle.reg_import.proofs.Allowed.{not_above}

-- ---- Rows of an office that is well kept

pub same_text_swapped : (a b : List ℕ) → same_text a b ≡ false → same_text b a ≡ false
same_text_swapped a b h = by (same_text b a) refl
  where
    by : (t : Bool) → same_text b a ≡ t → same_text b a ≡ false
    by false is = is
    by true is =
        let same : a ≡ b = sym ((bytes_eq-Decides b a).0 is) in
        absurd (let t = sym ((bytes_eq-Decides a b).1 same) ∙ h in cc)

-- nobody is to look at a request that is not there
unqueued : (w : World) → WellKept w → (name : RequestName) (expert : List ℕ)
    → get w.requests name ≡ None → get w.queue (name, expert) ≡ None
unqueued w kept name expert gone = by (get w.queue (name, expert)) refl
  where
    by : (o : Option (Unit {0})) → get w.queue (name, expert) ≡ o
        → get w.queue (name, expert) ≡ None
    by None is = is
    by (Some u) is =
        let there : IsSome (get w.requests name) = kept.queued (name, expert) (ap is_some is) in
        absurd (let no = rw gone at there in cc)

unadvised : (w : World) → WellKept w → (name : RequestName) (expert : List ℕ)
    → get w.requests name ≡ None → get w.advice (name, expert) ≡ None
unadvised w kept name expert gone = by (get w.advice (name, expert)) refl
  where
    by : (o : Option Advice) → get w.advice (name, expert) ≡ o
        → get w.advice (name, expert) ≡ None
    by None is = is
    by (Some a) is =
        let there = kept.advised (name, expert) a is in
        absurd (let no = sym (ap is_some (unqueued w kept name expert gone)) ∙ there in cc)

-- the name of the request for an entry, and of that for its renewal
abbrev pub first_name : Import → ListedEntry → RequestName
first_name by entry = (entry.assignee, (entry_filing by entry).reference)

abbrev pub second_name : Import → ListedEntry → RequestName
second_name by entry =
    (entry.assignee, reference_of (codes "renewal") by.registry entry.value)

-- what the lines of an entry need: less than that the office is well kept
pub record CanMake (digest_of : List ℕ → List ℕ) (w : World) (by : Import) (entry : ListedEntry)
    : Type 0 where
  pub policy : IsUnderPolicy w by.registry entry.value entry.policy
  pub below : nat_lt policy.0.max entry.value ≡ false
  pub free : get w.entries (by.registry, entry.value) ≡ None
  pub new : FilingIsNew digest_of w by (entry_filing by entry)
  pub renewal : RenewalsAreNew digest_of w by entry entry.standing
  pub unreviewed : (get w.queue (first_name by entry, by.expert) ≡ None)
      × (get w.advice (first_name by entry, by.expert) ≡ None)

pub can_make : (digest_of : List ℕ → List ℕ) (w : World) (by : Import) (entry : ListedEntry)
    → IsReadyFor digest_of w by entry → CanMake digest_of w by entry
can_make digest_of w by entry ready = record {
  policy = ready.policy;
  below = not_above w ready.kept by.registry ready.policy.0 entry.value entry.policy ready.policy.1
      ready.policy.2;
  free = ready.free;
  new = ready.new;
  renewal = ready.renewal;
  unreviewed = (
    unqueued w ready.kept (first_name by entry) by.expert ready.new.reference,
    unadvised w ready.kept (first_name by entry) by.expert ready.new.reference,
  );
}
