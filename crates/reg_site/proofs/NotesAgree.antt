-- Notes that say the same about what is published give the same files.
use Rattle.std.proofs.Common.{◌≡◌, ℕ, ◌+◌, ◌-◌, Bool, true, false, List, [], ◌∷◌, ◌++◌, length, map, filter, nat_lt, Option, Some, None, if◌then◌else◌, refl, ap, ap₂}
use Rattle.std.specs.List.{AllByRecursion, flat_map}
use Rattle.reg_core.specs.declared.entry.PageEntry.{PageEntry}
use Rattle.reg_core.specs.declared.holding.Listed.{Listed}
use Rattle.reg_core.specs.declared.page.Page.{Page}
use Rattle.reg_core.specs.declared.told.Told.TheVariants as tells
use Rattle.reg_history.specs.Chain.{chained, last_digest}
use Rattle.reg_history.specs.Moment.{moment_text}
use Rattle.reg_changes.specs.Recorded.{last_changed}
use Rattle.reg_changes.specs.declared.change.HistoryRecord.{HistoryRecord}
use Rattle.reg_pages.specs.Notes.{desk, entry_thing}
use Rattle.reg_pages.specs.declared.notes.Notes.{Notes}
use Rattle.reg_print.specs.Listing.{ListedRow, closed_status, entry_row, free_row, free_rows, is_in, page_rows, range_rows, rows_by, rows_from}
use Rattle.reg_print.specs.declared.listing.rows.RowStatus.{RowStatus}
use Rattle.reg_ranges.specs.declared.range.Range.{Range}
use Rattle.reg_site.specs.Laws.{AgreeOnPage, NotesOnNothingAreHidden}
use Rattle.reg_pages.specs.Noted.{apply_by, noted_in, note_of_row}
use Rattle.reg_site.specs.Records as records
use Rattle.reg_site.specs.Registry as registry
use Rattle.reg_site.specs.Files.{path_of}
use Rattle.reg_site.specs.Index.{index_by_rows, register_row, registry_row}
use Rattle.reg_site.specs.IndexTree.{index_tree}
use Rattle.reg_site.specs.Recent.{day_part, text_of}
use Rattle.reg_site.specs.Site.{block_files, blocks_at, change_files, index_files, one_file, page_files, pages_at, pool_files, prefixes_at, rows_by as registers_by, site_title, told_text, with_sums_file}
use Rattle.reg_site.specs.Summary.{summary}
use Rattle.reg_site.specs.declared.files.File.TheVariants as file
use Rattle.reg_site.proofs.SiteLaws.{all-append}

-- the notes say the same about the entry of a row
abbrev SaysSame : Option Notes → Option Notes → List ℕ → ListedRow → Type 0
SaysSame a b name listed = note_of_row a name listed ≡ note_of_row b name listed

abbrev SaysSameOf : Option Notes → Option Notes → List ℕ → PageEntry → Type 0
SaysSameOf a b name e = noted_in a (entry_thing name e.value) ≡ noted_in b (entry_thing name e.value)

kept_or_not : {X : Type 0} (P : X → Type 0) (x : X) (xs : List X) → P x → AllByRecursion P xs
    → (b : Bool) → AllByRecursion P (if b then x ∷ xs else xs)
kept_or_not P x xs h hs true = (h, hs)
kept_or_not P x xs h hs false = hs

all-filter : {X : Type 0} (P : X → Type 0) (test : X → Bool) (xs : List X) → AllByRecursion P xs
    → AllByRecursion P (filter test xs)
all-filter P test [] h = tt
all-filter P test (x ∷ xs) h =
    kept_or_not P x (filter test xs) h.0 (all-filter P test xs h.1) (test x)

-- ---- The rows of a registry

one_or_none : {X : Type 0} (P : X → Type 0) (x : X) → P x → (b : Bool)
    → AllByRecursion P (if b then x ∷ [] else [])
one_or_none P x h true = (h, tt)
one_or_none P x h false = tt

free_agree : (a b : Option Notes) (name : List ℕ) (range : Range) (next end : ℕ)
    → AllByRecursion (SaysSame a b name) (free_rows range next end)
free_agree a b name range next end =
    one_or_none (SaysSame a b name) (free_row range (record { lo = next; hi = end - 1 })) refl
    (nat_lt next end)

rows_agree : (a b : Option Notes) (name : List ℕ) (range : Range) (next : ℕ) (es : List PageEntry)
    → AllByRecursion (SaysSameOf a b name) es
    → AllByRecursion (SaysSame a b name) (rows_from range next es)
rows_agree a b name range next [] h = free_agree a b name range next (range.hi + 1)
rows_agree a b name range next (e ∷ es) h =
    all-append (SaysSame a b name) (free_rows range next e.value)
    (entry_row range e ∷ rows_from range (e.value + 1) es)
    (free_agree a b name range next e.value)
    (h.0, rows_agree a b name range (e.value + 1) es h.1)

range_agrees : (a b : Option Notes) (name : List ℕ) (es : List PageEntry) (range : Range)
    → AllByRecursion (SaysSameOf a b name) es
    → (closed : Option RowStatus) → AllByRecursion (SaysSame a b name) (rows_by closed es range)
range_agrees a b name es range h (Some status) = (refl, tt)
range_agrees a b name es range h None =
    rows_agree a b name range range.lo (filter (is_in range) es)
    (all-filter (SaysSameOf a b name) (is_in range) es h)

ranges_agree : (a b : Option Notes) (name : List ℕ) (es : List PageEntry) (ranges : List Range)
    → AllByRecursion (SaysSameOf a b name) es
    → AllByRecursion (SaysSame a b name) (flat_map (range_rows es) ranges)
ranges_agree a b name es [] h = tt
ranges_agree a b name es (range ∷ ranges) h =
    all-append (SaysSame a b name) (range_rows es range) (flat_map (range_rows es) ranges)
    (range_agrees a b name es range h (closed_status range.treatment))
    (ranges_agree a b name es ranges h)

-- ---- The files of a registry

rows_same : (a b : Option Notes) (name : List ℕ) (rows : List ListedRow)
    → AllByRecursion (SaysSame a b name) rows
    → map (registry.noted_row a name) rows ≡ map (registry.noted_row b name) rows
rows_same a b name [] h = refl
rows_same a b name (row ∷ rows) h =
    ap₂ (λ x xs. x ∷ xs) (ap (λ note. registry.entry_row note row) h.0) (rows_same a b name rows h.1)

records_same : (a b : Option Notes) (name : List ℕ) (rows : List ListedRow)
    → AllByRecursion (SaysSame a b name) rows
    → map (records.record_of a name) rows ≡ map (records.record_of b name) rows
records_same a b name [] h = refl
records_same a b name (row ∷ rows) h =
    ap₂ (λ x xs. x ∷ xs) (ap (records.record_with row) h.0) (records_same a b name rows h.1)

pub page_same : (a b : Option Notes) (changed : List ℕ) (page : Page) → noted_in a [] ≡ noted_in b []
    → noted_in a desk ≡ noted_in b desk → AgreeOnPage a b page
    → registry.registry_page a changed page ≡ registry.registry_page b changed page
unfolding registry.page_by
page_same a b changed page authority of_desk h =
    rw (
      authority,
      of_desk,
      h.registry,
      rows_same a b page.name (page_rows page)
          (ranges_agree a b page.name page.entries page.table.ranges h.entries),
    ) refl

file_same : (a b : Option Notes) (day : List ℕ) (page : Page) → AgreeOnPage a b page
    → records.records_text a day page ≡ records.records_text b day page
unfolding records.records_by
file_same a b day page h =
    rw (
      h.registry,
      records_same a b page.name (page_rows page)
          (ranges_agree a b page.name page.entries page.table.ranges h.entries),
    ) refl

files_same : (a b : Option Notes) (records : List HistoryRecord) (page : Page)
    → noted_in a [] ≡ noted_in b [] → noted_in a desk ≡ noted_in b desk → AgreeOnPage a b page
    → page_files a records page ≡ page_files b records page
files_same a b records page authority of_desk h =
    let changed = last_changed records page.name in
    ap₂
    (λ html xml.
    (path_of (file.RegistryPage page.name), html)
    ∷ (path_of (file.RegistryCsv page.name), told_text (tells.Sheet page))
    ∷ (path_of (file.RegistryTree page.name), told_text (tells.Page page))
    ∷ (path_of (file.RegistryRecords page.name), xml)
    ∷ [])
    (page_same a b changed page authority of_desk h)
    (file_same a b (day_part changed) page h)

all_files_same : (a b : Option Notes) (records : List HistoryRecord) (pages : List Page)
    → noted_in a [] ≡ noted_in b [] → noted_in a desk ≡ noted_in b desk
    → AllByRecursion (AgreeOnPage a b) pages
    → flat_map (page_files a records) pages ≡ flat_map (page_files b records) pages
all_files_same a b records [] authority of_desk h = refl
all_files_same a b records (page ∷ pages) authority of_desk h =
    ap₂ (λ xs ys. xs ++ ys) (files_same a b records page authority of_desk h.0)
    (all_files_same a b records pages authority of_desk h.1)

-- ---- The indexes

registers_same : (a b : Option Notes) (records : List HistoryRecord) (pages : List Page)
    → AllByRecursion (AgreeOnPage a b) pages
    → map (register_row a) (registers_by records pages) ≡ map (register_row b) (registers_by records pages)
registers_same a b records [] h = refl
registers_same a b records (page ∷ pages) h =
    ap₂ (λ x xs. x ∷ xs)
    (ap (λ note. registry_row note (last_changed records page.name) (summary page)) h.0.registry)
    (registers_same a b records pages h.1)

indexes_same : (a b : Option Notes) (records : List HistoryRecord) (digests : List (List ℕ))
    (pages : List Page) (prefixes : List ℕ) (rows : List Listed) (moment : ℕ)
    → noted_in a [] ≡ noted_in b [] → noted_in a desk ≡ noted_in b desk
    → AllByRecursion (AgreeOnPage a b) pages
    → index_files a digests (registers_by records pages) prefixes rows moment
    ≡ index_files b digests (registers_by records pages) prefixes rows moment
indexes_same a b records digests pages prefixes rows moment authority of_desk h =
    let shown = registers_same a b records pages h in
    λ i. (
      path_of file.Index,
      index_by_rows (authority i) (apply_by (authority i) (of_desk i)) (shown i) prefixes rows moment,
    )
    ∷ (
      path_of file.IndexTree,
      index_tree (site_title (authority i)) (moment_text moment) (length digests)
          (text_of (last_digest digests)) (registers_by records pages),
    )
    ∷ []

pub notes_on_nothing_are_hidden : NotesOnNothingAreHidden
notes_on_nothing_are_hidden a b records p moment h =
    let digests = (chained records).digests in
    let pages = pages_at p moment in
    let rows = blocks_at p moment in
    let prefixes = prefixes_at p moment in
    let lines = ap₂ apply_by h.authority h.of_desk in
    let same = all_files_same a b records pages h.authority h.of_desk h.pages in
    let indexes =
    indexes_same a b records digests pages prefixes rows moment h.authority h.of_desk h.pages in
    λ i. with_sums_file
    ((one_file file.Changes (chained records).text
    ++ (same i
    ++ (block_files (lines i) rows
    ++ (pool_files prefixes ++ change_files (lines i) (h.authority i) records digests))))
    ++ indexes i)
