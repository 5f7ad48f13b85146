-- The entry that is read of a row is the one that it says.
use Rattle.std.proofs.Common.{◌≡◌, ◌∙◌, ℕ, ◌≤◌, Bool, true, false, inl, inr, List, [], length, refl, ap, subst, arith}
use Rattle.std.specs.Prelude.{◌⊎◌, ◌&&◌, nat_lt, not, Option, Some, None, Result, Ok, Err, codes, if◌then◌else◌, decimal}
use Rattle.std.specs.Cmp.{first_so, second_so}
use Rattle.std.specs.Str.{bytes_eq}
use Rattle.std.proofs.lemmas.Bool.{both_ways, not-true}
use Rattle.std.proofs.lemmas.Bool.Decides.{nat_tests}
use Rattle.std.proofs.lemmas.Slice.Eq.{bytes_eq-Decides}
use Rattle.reg_ranges.proofs.Numerals.{reads_decimals}
use Rattle.reg_ranges.proofs.WordsReadBack.{policies_read}
use Rattle.reg_ranges.specs.Numbers.{read_number}
use Rattle.reg_ranges.specs.Requirements.{first_item, is_expert_policy, unmet}
use Rattle.reg_ranges.specs.Texts.{is_text, read_text}
use Rattle.reg_ranges.specs.Words.{policy_word, read_policy}
use Rattle.reg_ranges.specs.declared.evidence.Evidence.{Evidence}
use Rattle.reg_ranges.specs.declared.policy.Policy.{Policy}
use Rattle.reg_early.specs.DayReading.{read_day}
use Rattle.reg_early.specs.DayText.{text_of_day}
use Rattle.reg_early.specs.EarlyRequirements.{early_unmet}
use Rattle.reg_core.specs.Names.{is_name}
use Rattle.reg_import.specs.Columns.{field_in, is_header, is_listing_header, stands_at}
use Rattle.reg_import.specs.Faults.{◌>>=◌}
use Rattle.reg_import.specs.Rows.{CellsOfRow, assignee_in, checked, early_evidence_in, early_in, entry_if, entry_in, evidence_in, expires_in, for_good_in, formed, held_in, is_empty, is_met, kind_in, renewal_for, standing_in}
use Rattle.reg_import.specs.Saying.{ExpiresDuly, RowsAreReadAsTheySay, SaysEarlyEvidence, SaysEntry, SaysEvidence, SaysHeld, SaysNoEntry, SaysStanding, StandsBelow}
use Rattle.reg_import.specs.declared.column.Column.TheVariants as column
use Rattle.reg_import.specs.declared.entry.EarlyStanding.{EarlyStanding}
use Rattle.reg_import.specs.declared.entry.EntryKind.{EntryKind}
use Rattle.reg_import.specs.declared.entry.EntryKind.TheVariants as kind
use Rattle.reg_import.specs.declared.entry.ListedEntry.{ListedEntry}
use Rattle.reg_import.specs.declared.entry.ListedStanding.{ListedStanding}
use Rattle.reg_import.specs.declared.entry.ListedStanding.TheVariants.{ForGood, Early}
use Rattle.reg_import.specs.declared.fault.ImportRowFault.{ImportRowFault}
use Rattle.reg_import.specs.declared.fault.ImportRowFault.TheVariants as fault
use Rattle.reg_import.specs.declared.import.Import.{Import}
use Rattle.reg_import.proofs.DaysSaid.{day_text}
use Rattle.reg_import.proofs.Renewals.{no_renewal, renewal_of}
use Rattle.reg_import.proofs.RowFacts.{IsReadFrom, another, early, for_good, read_from, read_whole, was_formed, went_on}
use Rattle.reg_import.proofs.RowsSaid.{StatusOf, early_evidence, empty_is, evidence, held, stands, status_of, text_is}

-- ---- Days

duly : (first expires : ℕ) (renewal : Option ℕ) → renewal_for first expires ≡ Ok renewal
    → ExpiresDuly first expires renewal
duly first expires None h = no_renewal first expires h
duly first expires (Some day) h =
    let renews = renewal_of first expires day h in (renews.late, renews.soon, renews.ends)

-- what was tested
was_checked : (b : Bool) (f : ImportRowFault) (u : Unit {0}) → checked b f ≡ Ok u → b ≡ true
was_checked true f u h = refl
was_checked false f u h = absurd (cc)

-- ---- Rows

-- a header has the columns of a listing
record IsListing (header : List (List ℕ)) : Type 0 where
  value : stands_at header 0 column.Value ≡ true
  label : stands_at header 1 column.Description ≡ true
  status : stands_at header 2 column.Status ≡ true
  policy : stands_at header 3 column.Policy ≡ true
  first : stands_at header 4 column.First ≡ true
  expires : stands_at header 5 column.Expires ≡ true
  assignee : stands_at header 6 column.Assignee ≡ true

is_listing : (header : List (List ℕ)) → is_header header ≡ true → IsListing header
unfolding is_header
is_listing header h =
    let a = first_so (is_listing_header header) _ h in
    let b = second_so (stands_at header 0 column.Value) _ a in
    let c = second_so (stands_at header 1 column.Description) _ b in
    let d = second_so (stands_at header 2 column.Status) _ c in
    let e = second_so (stands_at header 3 column.Policy) _ d in
    let f = second_so (stands_at header 4 column.First) _ e in
    record {
      value = first_so (stands_at header 0 column.Value) _ a;
      label = first_so (stands_at header 1 column.Description) _ b;
      status = first_so (stands_at header 2 column.Status) _ c;
      policy = first_so (stands_at header 3 column.Policy) _ d;
      first = first_so (stands_at header 4 column.First) _ e;
      expires = first_so (stands_at header 5 column.Expires) _ f;
      assignee = second_so (stands_at header 5 column.Expires) _ f;
    }

module _ (header row : List (List ℕ)) (long : length row ≡ length header)
    (listing : IsListing header) where
  abbrev cells : CellsOfRow
  cells = field_in header row

  -- ---- Standing

  said_for_good : (policy : Policy) (first : ℕ) (assignee : List ℕ) (e : Evidence)
      → cells column.Status ≡ codes "Assigned" → for_good_in cells policy assignee ≡ Ok e
      → SaysStanding header row policy first assignee (ForGood e)
  said_for_good policy first assignee e assigned h =
      let stays = went_on (checked (is_empty (cells column.Expires)) fault.Expiry) _ e h in
      let hold = went_on (held_in cells) _ e stays.2 in
      let free = went_on (checked (not hold.0) fault.Held) _ e hold.2 in
      let read = went_on (evidence_in cells assignee) _ e free.2 in
      let end = went_on (is_met (first_item (unmet policy read.0))) _ e read.2 in
      let same : read.0 ≡ e = let last = end.2 in cc in
      let unheld = not-true hold.0 (was_checked (not hold.0) fault.Held free.0 free.1) in (
        stands header row long column.Status 2 (codes "Assigned") listing.status assigned,
        stands header row long column.Expires 5 [] listing.expires
            (empty_is (cells column.Expires)
            (was_checked (is_empty (cells column.Expires)) fault.Expiry stays.0 stays.1)),
        subst (SaysHeld header row) unheld (held header row long hold.0 hold.1),
        subst (SaysEvidence header row assignee) same (evidence header row long assignee read.0 read.1),
        for_good cells policy assignee e h,
      )

  said_early : (policy : Policy) (first : ℕ) (assignee : List ℕ) (st : EarlyStanding)
      → (cells column.Status ≡ codes "Temporary") ⊎ (cells column.Status ≡ codes "Expired")
      → early_in cells policy first ≡ Ok st
      → SaysStanding header row policy first assignee (Early st)
  said_early policy first assignee st status h =
      let expires = went_on (expires_in cells) _ st h in
      let renewal = went_on (renewal_for first expires.0) _ st expires.2 in
      let read = went_on (early_evidence_in cells) _ st renewal.2 in
      let hold = went_on (held_in cells) _ st read.2 in
      let made : EarlyStanding = record {
        expires = expires.0;
        renewal = renewal.0;
        evidence = read.0;
        held = hold.0;
      } in
      let end = went_on (is_met (first_item (early_unmet policy read.0))) _ st hold.2 in
      let same : made ≡ st = let last = end.2 in cc in
      let needs = (early cells policy first st h).0 in (
        by_status status,
        stands header row long column.Expires 5 (text_of_day st.expires) listing.expires
            (day_text (cells column.Expires) expires.0
            (was_formed (read_day (cells column.Expires)) column.Expires expires.0 expires.1)
            ∙ ap (λ (s : EarlyStanding). text_of_day s.expires) same),
        subst (λ (s : EarlyStanding). ExpiresDuly first s.expires s.renewal) same
            (duly first expires.0 renewal.0 renewal.1),
        subst (λ (s : EarlyStanding). SaysHeld header row s.held) same
            (held header row long hold.0 hold.1),
        subst (λ (s : EarlyStanding). SaysEarlyEvidence header row s.evidence) same
            (early_evidence header row long read.0 read.1),
        needs,
      )
    where
      by_status : (cells column.Status ≡ codes "Temporary") ⊎ (cells column.Status ≡ codes "Expired")
          → StandsBelow header row column.Status (codes "Temporary")
          ⊎ StandsBelow header row column.Status (codes "Expired")
      by_status (inl is) =
          inl (stands header row long column.Status 2 (codes "Temporary") listing.status is)
      by_status (inr is) =
          inr (stands header row long column.Status 2 (codes "Expired") listing.status is)

  said_standing : (k : EntryKind) (policy : Policy) (first : ℕ) (assignee : List ℕ)
      (s : ListedStanding) → StatusOf header row long (Some k)
      → standing_in cells k policy first assignee ≡ Ok s
      → SaysStanding header row policy first assignee s
  said_standing kind.ForGood policy first assignee s status h =
      let read = went_on (for_good_in cells policy assignee) (λ e. Ok (ForGood e)) s h in
      let same : ForGood read.0 ≡ s = let e = read.2 in cc in
      subst (SaysStanding header row policy first assignee) same
      (said_for_good policy first assignee read.0 status read.1)
  said_standing kind.Early policy first assignee s status h =
      let read = went_on (early_in cells policy first) (λ st. Ok (Early st)) s h in
      let same : Early read.0 ≡ s = let e = read.2 in cc in
      subst (SaysStanding header row policy first assignee) same
      (said_early policy first assignee read.0 status read.1)

  -- ---- An entry

  -- the first day is not after today
  not_after : (today first day : ℕ) → (if nat_lt today first then Err fault.Future else Ok first) ≡ Ok day
      → (first ≡ day) × (day ≤ today)
  not_after today first day h = by (nat_lt today first) refl h
    where
      by : (b : Bool) → nat_lt today first ≡ b
          → (if b then Err fault.Future else Ok first) ≡ Ok day → (first ≡ day) × (day ≤ today)
      by true t h = absurd (cc)
      by false t h =
          let same : first ≡ day = cc in
          let low : first ≤ today = grind (arith, nat_tests) in
          (same, subst (λ (d : ℕ). d ≤ today) same low)

  -- the assignee, whoever the expert is
  named : (by : Import) (policy : Policy) (assignee : List ℕ)
      → assignee_in by cells policy ≡ Ok assignee → cells column.Assignee ≡ assignee
  named by policy assignee h =
      let read = went_on (formed (read_text is_name (cells column.Assignee)) column.Assignee) _
      assignee h in
      let is = text_is is_name (cells column.Assignee) read.0
      (was_formed (read_text is_name (cells column.Assignee)) column.Assignee read.0 read.1) in
      is ∙ same (is_expert_policy policy && bytes_eq read.0 by.expert) read.0 read.2
    where
      same : (b : Bool) (a : List ℕ) → (if b then Err fault.Own else Ok a) ≡ Ok assignee → a ≡ assignee
      same true a h = absurd (cc)
      same false a h = cc

  says : (by : Import) (entry : ListedEntry) → IsReadFrom by cells entry
      → SaysEntry header row by entry
  says by entry read =
      let first = went_on (formed (read_day (cells column.First)) column.First) _ entry.first read.first in
      let past = not_after by.today first.0 entry.first first.2 in
      record {
        as_many = long;
        value = stands header row long column.Value 0 (decimal entry.value) listing.value
            ((reads_decimals entry.value (cells column.Value)).0
            (was_formed (read_number (cells column.Value)) column.Value entry.value read.value)).1;
        label = stands header row long column.Description 1 entry.label listing.label
            (text_is is_text (cells column.Description) entry.label
            (was_formed (read_text is_text (cells column.Description)) column.Description entry.label
            read.label));
        policy = stands header row long column.Policy 3 (policy_word entry.policy) listing.policy
            ((policies_read entry.policy (cells column.Policy)).0
            (was_formed (read_policy (cells column.Policy)) column.Policy entry.policy read.policy));
        first = stands header row long column.First 4 (text_of_day entry.first) listing.first
            (day_text (cells column.First) first.0
            (was_formed (read_day (cells column.First)) column.First first.0 first.1)
            ∙ ap text_of_day past.0);
        past = past.1;
        assignee = stands header row long column.Assignee 6 entry.assignee listing.assignee
            (named by entry.policy entry.assignee read.assignee);
        another = λ is same. both_ways (is_expert_policy entry.policy && bytes_eq entry.assignee by.expert)
            (another by cells entry.policy entry.assignee read.assignee)
            (ap (λ b. b && bytes_eq entry.assignee by.expert) is
            ∙ (bytes_eq-Decides entry.assignee by.expert).1 same);
        standing = said_standing read.which entry.policy entry.first entry.assignee entry.standing
            (status_of header row long (Some read.which) read.status) read.standing;
      }

  no_entry : (k : Option EntryKind) → kind_in cells ≡ Ok k → (by : Import)
      → entry_if by cells k ≡ Ok None → SaysNoEntry header row
  no_entry None status by h =
      let word = status_of header row long None status in (
        long,
        word.0,
        word.1,
        stands header row long column.Status 2 word.0 listing.status word.2,
      )
  no_entry (Some k) status by h = absurd (none (entry_in by k cells) h)
    where
      none : (r : Result ListedEntry ImportRowFault) → (r >>= (λ entry. Ok (Some entry))) ≡ Ok None → ⊥
      none (Ok entry) h = cc
      none (Err f) h = cc

pub rows_said : RowsAreReadAsTheySay
rows_said = record {
  entry = λ by header row entry is h.
      let whole = read_whole by header row (Some entry) h in
      says header row whole.0 (is_listing header is) by entry (read_from by header row entry h);
  none = λ by header row is h.
      let whole = read_whole by header row None h in
      no_entry header row whole.0 (is_listing header is) whole.1 whole.2 by whole.3;
}
