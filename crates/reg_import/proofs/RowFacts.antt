-- What is so of an entry that was read from a row.
use Rattle.std.proofs.Common.{◌≡◌, ◌<◌, ◌^◌, ℕ, Bool, true, false, cond, List, Result, Ok, Err, Option, Some, None, refl, subst, arith}
use Rattle.std.specs.Prelude.{◌&&◌, not, length, ◌==◌, if◌then◌else◌}
use Rattle.std.specs.Str.{bytes_eq}
use Rattle.std.proofs.lemmas.Bool.Decides.{nat_tests}
use Rattle.reg_early.specs.EarlyRequirements.{early_unmet}
use Rattle.reg_early.specs.declared.evidence.EarlyEvidence.{EarlyEvidence}
use Rattle.reg_core.specs.Names.{is_name}
use Rattle.reg_ranges.proofs.Numerals.{reads_decimals}
use Rattle.reg_ranges.specs.Numbers.{read_number}
use Rattle.reg_ranges.specs.Texts.{read_text}
use Rattle.reg_ranges.specs.Requirements.{first_item, is_expert_policy, unmet}
use Rattle.reg_ranges.specs.declared.evidence.Evidence.{Evidence}
use Rattle.reg_ranges.specs.declared.evidence.Item.{Item as EvidenceItem}
use Rattle.reg_ranges.specs.declared.policy.Policy.{Policy}
use Rattle.reg_import.specs.Columns.{field_in}
use Rattle.reg_import.specs.Faults.{◌>>=◌}
use Rattle.reg_import.specs.Rows.{CellsOfRow, assignee_in, checked, early_in, early_evidence_in, entry_if, entry_in, evidence_in, expires_in, first_in, for_good_in, formed, held_in, is_empty, is_met, kind_in, policy_in, renewal_for, row_in, standing_in, text_in, value_in}
use Rattle.reg_import.specs.declared.column.Column.{Column}
use Rattle.reg_import.specs.declared.column.Column.TheVariants as column
use Rattle.reg_import.specs.declared.entry.EarlyStanding.{EarlyStanding}
use Rattle.reg_import.specs.declared.entry.EntryKind.{EntryKind}
use Rattle.reg_import.specs.declared.entry.EntryKind.TheVariants as kind
use Rattle.reg_import.specs.declared.entry.ListedEntry.{ListedEntry}
use Rattle.reg_import.specs.declared.entry.ListedStanding.{ListedStanding}
use Rattle.reg_import.specs.declared.entry.ListedStanding.TheVariants.{ForGood, Early}
use Rattle.reg_import.specs.declared.fault.ImportRowFault.{ImportRowFault}
use Rattle.reg_import.specs.declared.fault.ImportRowFault.TheVariants as fault
use Rattle.reg_import.specs.declared.import.Import.{Import}

-- it has what its policy asks for, and its renewal gives its day of expiry
abbrev pub IsShown : Policy → ℕ → ListedStanding → Type 0
IsShown policy first (ForGood evidence) = first_item (unmet policy evidence) ≡ None
IsShown policy first (Early standing) =
    (first_item (early_unmet policy standing.evidence) ≡ None)
    × (renewal_for first standing.expires ≡ Ok standing.renewal)

-- what is so of it by its row
pub record IsRead (by : Import) (entry : ListedEntry) : Type 0 where
  pub small : entry.value < 2 ^ 32
  pub another : (is_expert_policy entry.policy && bytes_eq entry.assignee by.expert) ≡ false
  pub shown : IsShown entry.policy entry.first entry.standing

-- each part of the entry was read from its row
pub record IsReadFrom (by : Import) (row : CellsOfRow) (entry : ListedEntry) : Type 0 where
  pub which : EntryKind
  pub status : kind_in row ≡ Ok (Some which)
  pub value : value_in row ≡ Ok entry.value
  pub label : text_in row column.Description ≡ Ok entry.label
  pub policy : policy_in row ≡ Ok entry.policy
  pub first : first_in by row ≡ Ok entry.first
  pub assignee : assignee_in by row entry.policy ≡ Ok entry.assignee
  pub standing : standing_in row which entry.policy entry.first entry.assignee ≡ Ok entry.standing

-- a step that went on
pub went_on : {A B : Type 0} (a : Result A ImportRowFault) (f : A → Result B ImportRowFault) (y : B)
    → (a >>= f) ≡ Ok y → (x : A) × (a ≡ Ok x) × (f x ≡ Ok y)
went_on {A} {B} (Ok x) f y h = (x, refl, h)
went_on {A} {B} (Err e) f y h = absurd (cc)

pub passed : {A : Type 0} (b : Bool) (r : Result A ImportRowFault) (e : ImportRowFault) (y : A)
    → cond b r (Err e) ≡ Ok y → r ≡ Ok y
passed {A} true r e y h = h
passed {A} false r e y h = absurd (cc)

refused_not : {A : Type 0} (b : Bool) (x : A) (e : ImportRowFault) (y : A)
    → cond b (Err e) (Ok x) ≡ Ok y → (b ≡ false) × (x ≡ y)
refused_not {A} true x e y h = absurd (cc)
refused_not {A} false x e y h = (refl, cc)

-- a part that has its form
pub was_formed : {A : Type 0} (read : Option A) (c : Column) (x : A) → formed read c ≡ Ok x
    → read ≡ Some x
was_formed {A} None c x h = absurd (cc)
was_formed {A} (Some y) c x h = cc

met : (lacking : Option EvidenceItem) (u : Unit {0}) → is_met lacking ≡ Ok u → lacking ≡ None
met None u h = refl
met (Some item) u h = absurd (cc)

-- that an assignee is not the expert, as the test of a row
abbrev not_expert : Import → Policy → List ℕ → Result (List ℕ) ImportRowFault
not_expert by policy assignee =
    if is_expert_policy policy && bytes_eq assignee by.expert then Err fault.Own else Ok assignee

pub another : (by : Import) (row : CellsOfRow) (policy : Policy) (assignee : List ℕ)
    → assignee_in by row policy ≡ Ok assignee
    → (is_expert_policy policy && bytes_eq assignee by.expert) ≡ false
another by row policy assignee h =
    let read = went_on (formed (read_text is_name (row column.Assignee)) column.Assignee)
    (not_expert by policy) assignee h in
    let test = refused_not (is_expert_policy policy && bytes_eq read.0 by.expert) read.0 fault.Own
    assignee read.2 in
    subst (λ (a : List ℕ). (is_expert_policy policy && bytes_eq a by.expert) ≡ false) test.1 test.0

-- what comes after each step of an entry for good
abbrev good_end : Policy → Evidence → Result Evidence ImportRowFault
good_end policy e = is_met (first_item (unmet policy e)) >>= (λ met. Ok e)

abbrev good_free : CellsOfRow → Policy → List ℕ → Unit {0} → Result Evidence ImportRowFault
good_free row policy assignee free = evidence_in row assignee >>= good_end policy

abbrev good_held : CellsOfRow → Policy → List ℕ → Bool → Result Evidence ImportRowFault
good_held row policy assignee held =
    checked (not held) fault.Held >>= good_free row policy assignee

pub for_good : (row : CellsOfRow) (policy : Policy) (assignee : List ℕ) (evidence : Evidence)
    → for_good_in row policy assignee ≡ Ok evidence → first_item (unmet policy evidence) ≡ None
for_good row policy assignee evidence h =
    let stays = went_on (checked (is_empty (row column.Expires)) fault.Expiry)
    (λ stays. held_in row >>= good_held row policy assignee) evidence h in
    let held = went_on (held_in row) (good_held row policy assignee) evidence stays.2 in
    let free = went_on (checked (not held.0) fault.Held) (good_free row policy assignee) evidence
    held.2 in
    let read = went_on (evidence_in row assignee) (good_end policy) evidence free.2 in
    let end = went_on (is_met (first_item (unmet policy read.0))) (λ u. Ok read.0) evidence read.2 in
    let same : read.0 ≡ evidence = let e = end.2 in cc in
    subst (λ (e : Evidence). first_item (unmet policy e) ≡ None) same
    (met (first_item (unmet policy read.0)) end.0 end.1)

-- what comes after each step of an early allocation
abbrev early_end : Policy → ℕ → Option ℕ → EarlyEvidence → Bool → Result EarlyStanding ImportRowFault
early_end policy expires renewal e held =
    is_met (first_item (early_unmet policy e))
    >>= (λ met. Ok (record { expires = expires; renewal = renewal; evidence = e; held = held }))

abbrev early_read : CellsOfRow → Policy → ℕ → Option ℕ → EarlyEvidence → Result EarlyStanding ImportRowFault
early_read row policy expires renewal e = held_in row >>= early_end policy expires renewal e

abbrev early_renewal : CellsOfRow → Policy → ℕ → Option ℕ → Result EarlyStanding ImportRowFault
early_renewal row policy expires renewal =
    early_evidence_in row >>= early_read row policy expires renewal

pub early : (row : CellsOfRow) (policy : Policy) (first : ℕ) (standing : EarlyStanding)
    → early_in row policy first ≡ Ok standing → IsShown policy first (Early standing)
early row policy first standing h =
    let expires = went_on (expires_in row)
    (λ expires. renewal_for first expires >>= early_renewal row policy expires) standing h in
    let renewal = went_on (renewal_for first expires.0) (early_renewal row policy expires.0) standing
    expires.2 in
    let read = went_on (early_evidence_in row) (early_read row policy expires.0 renewal.0) standing
    renewal.2 in
    let held = went_on (held_in row) (early_end policy expires.0 renewal.0 read.0) standing read.2 in
    let made : EarlyStanding = record {
      expires = expires.0;
      renewal = renewal.0;
      evidence = read.0;
      held = held.0;
    } in
    let end = went_on (is_met (first_item (early_unmet policy read.0))) (λ met. Ok made) standing
    held.2 in
    let same : made ≡ standing = let e = end.2 in cc in
    subst (λ (s : EarlyStanding). IsShown policy first (Early s)) same
    (met (first_item (early_unmet policy read.0)) end.0 end.1, renewal.1)

pub shown : (row : CellsOfRow) (k : EntryKind) (policy : Policy) (first : ℕ) (assignee : List ℕ)
    (standing : ListedStanding) → standing_in row k policy first assignee ≡ Ok standing
    → IsShown policy first standing
shown row kind.ForGood policy first assignee standing h =
    let read = went_on (for_good_in row policy assignee) (λ e. Ok (ForGood e)) standing h in
    let same : ForGood read.0 ≡ standing = let e = read.2 in cc in
    subst (IsShown policy first) same (for_good row policy assignee read.0 read.1)
shown row kind.Early policy first assignee standing h =
    let read = went_on (early_in row policy first) (λ s. Ok (Early s)) standing h in
    let same : Early read.0 ≡ standing = let e = read.2 in cc in
    subst (IsShown policy first) same (early row policy first read.0 read.1)

-- what comes after each step of an entry
abbrev entry_of : ℕ → List ℕ → Policy → ℕ → List ℕ → ListedStanding → Result ListedEntry ImportRowFault
entry_of value label policy first assignee standing =
    Ok (record {
      value = value;
      label = label;
      policy = policy;
      first = first;
      assignee = assignee;
      standing = standing;
    })

abbrev with_assignee : EntryKind → CellsOfRow → ℕ → List ℕ → Policy → ℕ → List ℕ
    → Result ListedEntry ImportRowFault
with_assignee k row value label policy first assignee =
    standing_in row k policy first assignee >>= entry_of value label policy first assignee

abbrev with_first : Import → EntryKind → CellsOfRow → ℕ → List ℕ → Policy → ℕ
    → Result ListedEntry ImportRowFault
with_first by k row value label policy first =
    assignee_in by row policy >>= with_assignee k row value label policy first

abbrev with_policy : Import → EntryKind → CellsOfRow → ℕ → List ℕ → Policy → Result ListedEntry ImportRowFault
with_policy by k row value label policy =
    first_in by row >>= with_first by k row value label policy

abbrev with_label : Import → EntryKind → CellsOfRow → ℕ → List ℕ → Result ListedEntry ImportRowFault
with_label by k row value label = policy_in row >>= with_policy by k row value label

read_entry : (by : Import) (k : EntryKind) (row : CellsOfRow) (entry : ListedEntry)
    → kind_in row ≡ Ok (Some k) → entry_in by k row ≡ Ok entry → IsReadFrom by row entry
read_entry by k row entry status h =
    let value = went_on (value_in row)
    (λ value. text_in row column.Description >>= with_label by k row value) entry h in
    let label = went_on (text_in row column.Description) (with_label by k row value.0) entry value.2 in
    let policy = went_on (policy_in row) (with_policy by k row value.0 label.0) entry label.2 in
    let first = went_on (first_in by row) (with_first by k row value.0 label.0 policy.0) entry
    policy.2 in
    let assignee = went_on (assignee_in by row policy.0)
    (with_assignee k row value.0 label.0 policy.0 first.0) entry first.2 in
    let standing = went_on (standing_in row k policy.0 first.0 assignee.0)
    (entry_of value.0 label.0 policy.0 first.0 assignee.0) entry assignee.2 in
    let made : ListedEntry = record {
      value = value.0;
      label = label.0;
      policy = policy.0;
      first = first.0;
      assignee = assignee.0;
      standing = standing.0;
    } in
    let same : made ≡ entry = let e = standing.2 in cc in
    subst (IsReadFrom by row) same (record {
      which = k;
      status = status;
      value = value.1;
      label = label.1;
      policy = policy.1;
      first = first.1;
      assignee = assignee.1;
      standing = standing.1;
    })

read_if : (by : Import) (row : CellsOfRow) (k : Option EntryKind) (entry : ListedEntry)
    → kind_in row ≡ Ok k → entry_if by row k ≡ Ok (Some entry) → IsReadFrom by row entry
read_if by row None entry status h = absurd (cc)
read_if by row (Some k) entry status h =
    let read = went_on (entry_in by k row) (λ e. Ok (Some e)) (Some entry) h in
    let same : read.0 ≡ entry = let e = read.2 in cc in
    subst (IsReadFrom by row) same (read_entry by k row read.0 status read.1)

-- a row that says an entry has as many fields as the header
pub read_whole : (by : Import) (header fields : List (List ℕ)) (entry : Option ListedEntry)
    → row_in by header fields ≡ Ok entry
    → (length fields ≡ length header) × (kind : Option EntryKind)
    × (kind_in (field_in header fields) ≡ Ok kind)
    × (entry_if by (field_in header fields) kind ≡ Ok entry)
unfolding row_in
read_whole by header fields entry h =
    by_length (length fields == length header) refl h
  where
    row : CellsOfRow
    row = field_in header fields

    by_length : (b : Bool) → (length fields == length header) ≡ b
        → cond b (kind_in row >>= entry_if by row) (Err fault.Columns) ≡ Ok entry
        → (length fields ≡ length header) × (kind : Option EntryKind) × (kind_in row ≡ Ok kind)
        × (entry_if by row kind ≡ Ok entry)
    by_length true t h =
        let k = went_on (kind_in row) (entry_if by row) entry h in
        (grind (arith, nat_tests), k.0, k.1, k.2)
    by_length false t h = absurd (cc)

pub read_from : (by : Import) (header fields : List (List ℕ)) (entry : ListedEntry)
    → row_in by header fields ≡ Ok (Some entry) → IsReadFrom by (field_in header fields) entry
read_from by header fields entry h =
    let k = read_whole by header fields (Some entry) h in
    read_if by (field_in header fields) k.1 entry k.2 k.3

pub read_row : (by : Import) (header fields : List (List ℕ)) (entry : ListedEntry)
    → row_in by header fields ≡ Ok (Some entry) → IsRead by entry
read_row by header fields entry h =
    let row : CellsOfRow = field_in header fields in
    let read = read_from by header fields entry h in
    let number = was_formed (read_number (row column.Value)) column.Value entry.value read.value in
    record {
      small = ((reads_decimals entry.value (row column.Value)).0 number).0;
      another = another by row entry.policy entry.assignee read.assignee;
      shown = shown row read.which entry.policy entry.first entry.assignee entry.standing
          read.standing;
    }
