-- What a row of a register says, in other words: what stands below the word of each column.
use Rattle.std.specs.Prelude.{◌≡◌, ◌≢◌, ◌⊎◌, ◌<◌, ◌≤◌, ℕ, Bool, true, false, List, [], ◌∷◌, length, Option, Some, None, Ok, Contains, codes}
use Rattle.std.specs.Fmt.{decimal}
use Rattle.csv.specs.Records.{field_at}
use Rattle.reg_ranges.specs.Requirements.{first_item, is_expert_policy, unmet}
use Rattle.reg_ranges.specs.Rfcs.{PublishedRfc}
use Rattle.reg_ranges.specs.Words.{policy_word, stream_word, track_word}
use Rattle.reg_ranges.specs.declared.evidence.Evidence.{Evidence}
use Rattle.reg_ranges.specs.declared.policy.Policy.{Policy}
use Rattle.reg_early.specs.Calendar.{year_after}
use Rattle.reg_early.specs.DayText.{text_of_day}
use Rattle.reg_early.specs.EarlyRequirements.{early_unmet}
use Rattle.reg_early.specs.declared.evidence.EarlyEvidence.{EarlyEvidence}
use Rattle.reg_import.specs.Columns.{column_word, is_header}
use Rattle.reg_import.specs.Rows.{row_in}
use Rattle.reg_import.specs.declared.column.Column.{Column}
use Rattle.reg_import.specs.declared.column.Column.TheVariants as column
use Rattle.reg_import.specs.declared.entry.ListedEntry.{ListedEntry}
use Rattle.reg_import.specs.declared.entry.ListedStanding.{ListedStanding}
use Rattle.reg_import.specs.declared.entry.ListedStanding.TheVariants.{ForGood, Early}
use Rattle.reg_import.specs.declared.import.Import.{Import}

-- an allocation of a first day expires a year later; or it was renewed once, on a day after its first
-- year and before the year 3000, and expires a year after that
abbrev pub ExpiresDuly : ℕ → ℕ → Option ℕ → Type 0
ExpiresDuly first expires None = year_after first ≡ expires
ExpiresDuly first expires (Some day) =
    (year_after first ≤ day) × (day < 376200) × (year_after day ≡ expires)

-- the statuses of values that have no entry
abbrev pub vacant_words : List (List ℕ)
vacant_words =
    codes "Unassigned" ∷ codes "Reserved" ∷ codes "Private Use" ∷ codes "Experimental Use"
    ∷ codes "Hierarchical Allocation" ∷ []

-- the row has this text below the word of the column
abbrev pub StandsBelow : List (List ℕ) → List (List ℕ) → Column → List ℕ → Type 0
StandsBelow header row column text =
    (k : ℕ) × (field_at header k ≡ Some (column_word column)) × (field_at row k ≡ Some text)

module _ (header row : List (List ℕ)) where
  -- the same; or the header has no such column, which counts as empty
  abbrev pub CellIs : Column → List ℕ → Type 0
  CellIs column text =
      StandsBelow header row column text
      ⊎ (((k : ℕ) → field_at header k ≢ Some (column_word column)) × (text ≡ []))

  -- ---- Evidence

  -- a text, or nothing
  abbrev pub SaysNote : Column → Option (List ℕ) → Type 0
  SaysNote column None = CellIs column []
  SaysNote column (Some text) = CellIs column text × (text ≢ [])

  -- a mark
  abbrev pub SaysMark : Column → Bool → Type 0
  SaysMark column true = CellIs column (codes "true")
  SaysMark column false = CellIs column [] ⊎ CellIs column (codes "false")

  -- whom to ask: the assignee, where nobody is named
  abbrev pub SaysContact : List ℕ → Option (List ℕ) → Type 0
  SaysContact assignee None = ⊥
  SaysContact assignee (Some contact) =
      (CellIs column.Contact contact × (contact ≢ []))
      ⊎ (CellIs column.Contact [] × (contact ≡ assignee))

  -- the number of an RFC, with its stream and its track; or none
  abbrev pub SaysRfc : Option PublishedRfc → Type 0
  SaysRfc None = CellIs column.Rfc []
  SaysRfc (Some rfc) =
      CellIs column.Rfc (decimal rfc.number) × CellIs column.Stream (stream_word rfc.stream)
      × CellIs column.Track (track_word rfc.track)

  -- the evidence for an assignment, and for an early allocation
  pub record SaysEvidence (assignee : List ℕ) (evidence : Evidence) : Type 0 where
    pub contact : SaysContact assignee evidence.contact
    pub spec : SaysNote column.Specification evidence.spec
    pub rfc : SaysRfc evidence.rfc
    pub minute : SaysNote column.Minute evidence.minute

  pub record SaysEarlyEvidence (evidence : EarlyEvidence) : Type 0 where
    pub draft : SaysNote column.Draft evidence.draft
    pub stable : SaysMark column.Stable evidence.stable
    pub interest : SaysMark column.Interest evidence.interest
    pub chair : SaysNote column.Chair evidence.chair
    pub director : SaysNote column.Director evidence.director
    pub will_be_rfc : SaysMark column.WillBeRfc evidence.will_be_rfc

  -- ---- Standing

  -- whether a clerk holds it
  abbrev pub SaysHeld : Bool → Type 0
  SaysHeld true = CellIs column.Held (codes "held")
  SaysHeld false = CellIs column.Held []

  -- assigned for good, or allocated early; and it has what its policy asks for
  abbrev pub SaysStanding : Policy → ℕ → List ℕ → ListedStanding → Type 0
  SaysStanding policy first assignee (ForGood evidence) =
      StandsBelow header row column.Status (codes "Assigned")
      × StandsBelow header row column.Expires [] × SaysHeld false
      × SaysEvidence assignee evidence × (first_item (unmet policy evidence) ≡ None)
  SaysStanding policy first assignee (Early standing) =
      (StandsBelow header row column.Status (codes "Temporary")
      ⊎ StandsBelow header row column.Status (codes "Expired"))
      × StandsBelow header row column.Expires (text_of_day standing.expires)
      × ExpiresDuly first standing.expires standing.renewal × SaysHeld standing.held
      × SaysEarlyEvidence standing.evidence
      × (first_item (early_unmet policy standing.evidence) ≡ None)

  -- ---- Entries

  -- the row has as many fields as the header, and says this entry
  pub record SaysEntry (by : Import) (entry : ListedEntry) : Type 0 where
    pub as_many : length row ≡ length header
    pub value : StandsBelow header row column.Value (decimal entry.value)
    pub label : StandsBelow header row column.Description entry.label
    pub policy : StandsBelow header row column.Policy (policy_word entry.policy)
    pub first : StandsBelow header row column.First (text_of_day entry.first)
    pub past : entry.first ≤ by.today
    pub assignee : StandsBelow header row column.Assignee entry.assignee
    pub another : is_expert_policy entry.policy ≡ true → entry.assignee ≢ by.expert
    pub standing : SaysStanding entry.policy entry.first entry.assignee entry.standing

  -- it has as many fields, and its values have no entry
  abbrev pub SaysNoEntry : Type 0
  SaysNoEntry =
      (length row ≡ length header)
      × (word : List ℕ) × Contains vacant_words word × StandsBelow header row column.Status word

-- what is read of a row below a header of a register is what it says
pub record RowsAreReadAsTheySay : Type 0 where
  pub entry : (by : Import) (header row : List (List ℕ)) (entry : ListedEntry)
      → is_header header ≡ true → row_in by header row ≡ Ok (Some entry)
      → SaysEntry header row by entry
  pub none : (by : Import) (header row : List (List ℕ)) → is_header header ≡ true
      → row_in by header row ≡ Ok None → SaysNoEntry header row
