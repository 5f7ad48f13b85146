-- What is published, in other words: which subjects there are, and what is said of each.
use Rattle.std.specs.Prelude.{◌≡◌, ◌≢◌, ◌⊎◌, ℕ, ◌+◌, true, false, List, [], ◌++◌, length, sum_by, Some, None, All, Contains, codes, decimal}
use Rattle.reg_blocks.specs.Block.{SizedPrefix}
use Rattle.reg_blocks.specs.Digits.{block_text, prefix_text}
use Rattle.reg_early.specs.DayText.{text_of_day}
use Rattle.reg_ranges.specs.Words.{treatment_word}
use Rattle.reg_ranges.specs.declared.range.Range.{Range}
use Rattle.reg_core.specs.declared.entry.PageEntry.{PageEntry}
use Rattle.reg_core.specs.declared.holding.Listed.{Listed}
use Rattle.reg_core.specs.declared.page.Page.{Page}
use Rattle.reg_changes.specs.declared.change.Class.TheVariants as class
use Rattle.reg_changes.specs.declared.change.Details.{Details}
use Rattle.reg_changes.specs.declared.change.Fact.{Fact}
use Rattle.reg_history.specs.Published.{published_facts}

-- ---- One fact

-- it is of a range of this registry: of its one value, or of its first and last; with its note, and the
-- word of its treatment
pub record IsRangeFact (name : List ℕ) (range : Range) (fact : Fact) : Type 0 where
  pub class : fact.subject.class ≡ class.Range
  pub registry : fact.subject.registry ≡ name
  pub one : range.lo ≡ range.hi → fact.subject.value ≡ decimal range.lo
  pub more : range.lo ≢ range.hi
      → fact.subject.value ≡ decimal range.lo ++ codes "-" ++ decimal range.hi
  pub note : (text : List ℕ) → range.note ≡ Some text → fact.details.description ≡ text
  pub no_note : range.note ≡ None → fact.details.description ≡ []
  pub policy : fact.details.policy ≡ treatment_word range.treatment
  pub rest : (fact.details.first ≡ []) × (fact.details.standing.expires ≡ [])
      × (fact.details.standing.held ≡ []) × (fact.details.assignee ≡ [])

-- it is of an entry of this registry: its value, label, days and assignee, and whether a clerk holds it
pub record IsEntryFact (name : List ℕ) (entry : PageEntry) (fact : Fact) : Type 0 where
  pub class : fact.subject.class ≡ class.Entry
  pub registry : fact.subject.registry ≡ name
  pub value : fact.subject.value ≡ decimal entry.value
  pub label : fact.details.description ≡ entry.label
  pub first : fact.details.first ≡ text_of_day entry.term.first
  pub expires : (day : ℕ) → entry.term.expires ≡ Some day
      → fact.details.standing.expires ≡ text_of_day day
  pub permanent : entry.term.expires ≡ None → fact.details.standing.expires ≡ []
  pub held : entry.term.held ≡ true → fact.details.standing.held ≡ codes "held"
  pub free : entry.term.held ≡ false → fact.details.standing.held ≡ []
  pub assignee : fact.details.assignee ≡ entry.assignee
  pub rest : fact.details.policy ≡ []

-- nothing is said but that it is there
abbrev pub SaysNothing : Details → Type 0
SaysNothing details =
    (details.description ≡ []) × (details.policy ≡ []) × (details.first ≡ [])
    × (details.standing.expires ≡ []) × (details.standing.held ≡ []) × (details.assignee ≡ [])

-- it is of a prefix of the pool, or of a block, whoever holds it
pub record IsPrefixFact (prefix : ℕ) (fact : Fact) : Type 0 where
  pub class : fact.subject.class ≡ class.Prefix
  pub registry : fact.subject.registry ≡ []
  pub value : fact.subject.value ≡ prefix_text prefix
  pub rest : SaysNothing fact.details

pub record IsBlockFact (block : SizedPrefix) (fact : Fact) : Type 0 where
  pub class : fact.subject.class ≡ class.Block
  pub registry : fact.subject.registry ≡ []
  pub value : fact.subject.value ≡ block_text block
  pub rest : SaysNothing fact.details

-- ---- All facts

-- it is of a range or of an entry of one of these pages
abbrev pub IsOfPage : List Page → Fact → Type 0
IsOfPage pages fact =
    (page : Page) × Contains pages page
    × (((range : Range) × Contains page.table.ranges range × IsRangeFact page.name range fact)
    ⊎ ((entry : PageEntry) × Contains page.entries entry × IsEntryFact page.name entry fact))

-- it is of one of these registries, prefixes and blocks
abbrev pub IsPublishedFact : List Page → List ℕ → List Listed → Fact → Type 0
IsPublishedFact pages prefixes rows fact =
    IsOfPage pages fact
    ⊎ (((prefix : ℕ) × Contains prefixes prefix × IsPrefixFact prefix fact)
    ⊎ ((row : Listed) × Contains rows row × IsBlockFact row.block fact))

-- some fact among these is so
abbrev pub HasFactThat : (Fact → Type 0) → List Fact → Type 0
HasFactThat Is facts = (fact : Fact) × Contains facts fact × Is fact

-- how many ranges and entries a page has
abbrev pub page_size : Page → ℕ
page_size page = length page.table.ranges + length page.entries

-- what is published of these registries, prefixes and blocks is a fact of each range, entry, prefix and
-- block, and no more
pub record FactsArePublished : Type 0 where
  pub only : (pages : List Page) (prefixes : List ℕ) (rows : List Listed)
      → All (IsPublishedFact pages prefixes rows) (published_facts pages prefixes rows)
  pub ranges : (pages : List Page) (prefixes : List ℕ) (rows : List Listed) (page : Page)
      (range : Range) → Contains pages page → Contains page.table.ranges range
      → HasFactThat (IsRangeFact page.name range) (published_facts pages prefixes rows)
  pub entries : (pages : List Page) (prefixes : List ℕ) (rows : List Listed) (page : Page)
      (entry : PageEntry) → Contains pages page → Contains page.entries entry
      → HasFactThat (IsEntryFact page.name entry) (published_facts pages prefixes rows)
  pub prefixes : (pages : List Page) (prefixes : List ℕ) (rows : List Listed) (prefix : ℕ)
      → Contains prefixes prefix
      → HasFactThat (IsPrefixFact prefix) (published_facts pages prefixes rows)
  pub blocks : (pages : List Page) (prefixes : List ℕ) (rows : List Listed) (row : Listed)
      → Contains rows row
      → HasFactThat (IsBlockFact row.block) (published_facts pages prefixes rows)
  pub many : (pages : List Page) (prefixes : List ℕ) (rows : List Listed)
      → length (published_facts pages prefixes rows)
      ≡ sum_by page_size pages + (length prefixes + length rows)
