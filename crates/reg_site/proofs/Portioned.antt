-- Portions of a page.
use Rattle.std.proofs.Common.{◌≡◌, ℕ, ◌+◌, ◌<◌, ◌≤◌, List, [], ◌∷◌, ◌++◌, length, get_or, drop, map, nat_lt, true, false, refl, sym, ap, ◌∙◌, append_assoc, arith, Option}
use Rattle.std.proofs.lemmas.Bool.Decides.{nat_tests}
use Rattle.std.proofs.lemmas.List.{drop_all}
use Rattle.reg_core.specs.declared.entry.PageEntry.{PageEntry}
use Rattle.reg_core.specs.declared.page.Page.{Page}
use Rattle.reg_core.specs.declared.reply.Reply.TheVariants.{Accepted}
use Rattle.reg_core.specs.declared.told.Told.TheVariants as tells
use Rattle.reg_ranges.specs.declared.range.Range.{Range}
use Rattle.reg_print.specs.Answer.{body_text}
use Rattle.reg_print.specs.Listing.{ListedRow, csv_text, header, row_fields, row_view}
use Rattle.reg_print.specs.declared.listing.rows.ListingRow.{ListingRow}
use Rattle.reg_print.specs.Parts.{end_text, entry_text, front_text, listed_text}
use Rattle.reg_print.specs.Trees.Page.{entry_tree}
use Rattle.reg_print.specs.declared.answer.Answer.TheVariants.{Reply}
use Rattle.reg_print.proofs.ComparedTexts.{body_text-page}
use Rattle.reg_print.proofs.ListingText.{record_then}
use Rattle.reg_pages.specs.Markup.{markup_then}
use Rattle.reg_pages.specs.Noted.{noted_in}
use Rattle.reg_pages.proofs.Portioned.{at_place}
use Rattle.reg_site.specs.Records as records
use Rattle.reg_site.specs.Registry as registry
use Rattle.reg_site.specs.Listing.{records as listed_records}
use Rattle.reg_site.specs.Tree.{entries_left}
use Rattle.reg_site.specs.declared.summary.Summary.{Summary}
use Rattle.reg_pages.specs.declared.note.Note.{Note}
use Rattle.reg_pages.specs.declared.notes.Notes.{Notes}

-- ---- The page of a registry

-- what stands above its rows has a byte
pub above_some : (notes : Option Notes) (changed name : List ℕ) (counts : Summary)
    (entries : List PageEntry) (ranges : List Range)
    → 0 < length (registry.above_rows notes changed name counts entries ranges [])
above_some notes changed name counts entries ranges = omega arith

-- a row has a byte
pub row_some : (noted : Option Note) (listed : ListedRow)
    → 0 < length (markup_then (registry.entry_row noted listed) [])
row_some noted listed = omega arith

-- the page is what stands above its rows, and then these and what stands below
pub page_parts : (notes : Option Notes) (changed name : List ℕ) (counts : Summary)
    (entries : List PageEntry) (ranges : List Range) (rows : List ListedRow)
    → registry.page_by notes changed name counts entries ranges rows
    ≡ registry.above_rows notes changed name counts entries ranges (registry.rows_left notes name rows)
unfolding registry.page_by
page_parts notes changed name counts entries ranges rows = refl

-- ---- A registry in IANA's form

-- what stands above its records has a byte
pub above_records_some : (name title day : List ℕ) (ranges : List Range)
    → 0 < length (records.above_records name title day ranges [])
above_records_some name title day ranges = omega arith

-- a record has a byte
pub record_some : (notes : Option Notes) (name : List ℕ) (listed : ListedRow)
    → 0 < length (markup_then (records.record_of notes name listed) [])
record_some notes name listed = omega arith

-- what stands below them has a byte
pub below_records_some : 0 < length (records.below_records ++ [])
below_records_some = omega arith

-- the file is what stands above its records, and then these and what stands below
pub records_parts : (notes : Option Notes) (name day : List ℕ) (ranges : List Range)
    (rows : List ListedRow)
    → records.records_by notes name day ranges rows
    ≡ records.above_records name (records.title_of (noted_in notes name) name) day ranges
    (records.records_after notes name rows)
unfolding records.records_by
records_parts notes name day ranges rows = refl

-- ---- The listing of a registry

-- the listing is the record of its columns, and then those of its rows
pub listing_parts : (rows : List ListingRow)
    → csv_text (header ∷ listed_records (map row_view rows))
    ≡ csv_text (header ∷ []) ++ csv_text (listed_records (map row_view (drop 0 rows)))
listing_parts rows = record_then header (listed_records (map row_view rows))

-- from a row that is there it is that row's record, and then what is left
pub record_of_row : (rows : List ListingRow) (place : ℕ) (row : ListingRow) → place < length rows
    → row ≡ get_or rows place row
    → csv_text (listed_records (map row_view (drop place rows)))
    ≡ csv_text (row_fields (row_view row) ∷ []) ++ csv_text (listed_records (map row_view (drop (place + 1) rows)))
record_of_row rows place row h is =
    ap (λ left. csv_text (listed_records (map row_view left))) (at_place rows place row h is)
    ∙ record_then (row_fields (row_view row)) (listed_records (map row_view (drop (place + 1) rows)))

-- ---- The JSON of a registry

-- what stands before its entries has a byte
pub front_some : 0 < length front_text
front_some = omega arith

-- what stands behind them has a byte
pub end_some : (page : Page) → 0 < length (end_text page)
end_some page = omega arith

-- the JSON is what stands before its entries, and then these and what stands behind them
pub tree_parts : (page : Page)
    → body_text (Reply (Accepted (tells.Page page))) ≡ front_text ++ entries_left page 0
tree_parts page =
    body_text-page page
    ∙ append_assoc front_text (listed_text false (map entry_tree page.entries)) (end_text page)

-- from an entry that is there it is that entry, and then what is left
pub entry_then : (page : Page) (place : ℕ) (entry : PageEntry) → place < length page.entries
    → entry ≡ get_or page.entries place entry
    → entries_left page place
    ≡ entry_text (nat_lt 0 place) entry ++ entries_left page (place + 1)
entry_then page place entry h is =
    let piece = entry_text (nat_lt 0 place) entry in
    let more = map entry_tree (drop (place + 1) page.entries) in
    let later : nat_lt 0 (place + 1) ≡ true = grind (arith, nat_tests) in
    ap (λ entries. listed_text (nat_lt 0 place) (map entry_tree entries) ++ end_text page)
    (at_place page.entries place entry h is)
    ∙ append_assoc piece (listed_text true more) (end_text page)
    ∙ ap (λ b. piece ++ (listed_text b more ++ end_text page)) (sym later)

-- behind the last entry it is what stands there
pub entries_none : (page : Page) (place : ℕ) → length page.entries ≤ place
    → entries_left page place ≡ end_text page
entries_none page place h =
    ap (λ entries. listed_text (nat_lt 0 place) (map entry_tree entries) ++ end_text page)
    (drop_all place page.entries h)
