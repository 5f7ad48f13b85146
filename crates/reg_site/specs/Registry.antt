-- The page of a registry.
use Rattle.std.specs.Prelude.{ℕ, List, [], ◌∷◌, ◌++◌, drop, map, unwrap_or, codes, Option, option_map}
use Rattle.std.specs.Fmt.{decimal}
use Rattle.reg_ranges.specs.declared.range.Range.{Range}
use Rattle.reg_core.specs.declared.entry.PageEntry.{PageEntry}
use Rattle.reg_core.specs.declared.page.Page.{Page}
use Rattle.reg_print.specs.Listing.{ListedRow, assignee_text, expiry_text, first_text, page_rows, row_view, run_text, whole}
use Rattle.reg_site.specs.Bar.{bar}
use Rattle.reg_pages.specs.declared.note.Note.{Note}
use Rattle.reg_pages.specs.declared.notes.Notes.{Notes}
use Rattle.reg_pages.specs.Noted.{apply_lines, note_of_row, noted, noted_in, reference_in, title_in, words_in}
use Rattle.reg_pages.specs.Reference.{reference_markup}
use Rattle.reg_site.specs.Policy.{named_policy, treatment_name}
use Rattle.reg_site.specs.Status.{shown_status}
use Rattle.reg_pages.specs.Document.{attribute, document, link, page, page_start, plain}
use Rattle.reg_pages.specs.Markup.{Markup, nothing, text, element, beside, all_of, markup_then, opening_then}
use Rattle.reg_site.specs.Summary.{summary}
use Rattle.reg_site.specs.declared.summary.Summary.{Summary}
use Rattle.reg_pages.specs.Table.{below_rows, cell, head_cell, row_of, table, table_start}
use Rattle.reg_pages.specs.declared.portions.Next.{Next}
use Rattle.reg_pages.specs.declared.portions.Next.TheVariants as next
use Rattle.reg_site.specs.declared.registry.RegistryPage.{RegistryPage}

-- ---- The ranges

-- A range as a row, by its first value, its values, its policy and its note. It is found by r and its values,
-- and leads to the row of its first value.
abbrev pub range_by : ℕ → List ℕ → List ℕ → List ℕ → Markup
range_by first values policy note =
    row_of (codes "r" ++ values)
    (beside (head_cell (codes "v" ++ decimal first) values) (beside (cell policy) (cell note)))

abbrev pub range_row : Range → Markup
range_row range =
    range_by range.lo (run_text (whole range)) (treatment_name range.treatment)
    (unwrap_or range.note [])

-- the heads of the columns
abbrev pub range_columns : List (List ℕ)
range_columns = codes "Values" ∷ codes "Policy" ∷ codes "Note" ∷ []

-- the table of all ranges
abbrev pub ranges_table : List Range → Markup
ranges_table ranges =
    table (codes "ranges") (codes "Ranges and their policies") range_columns
    (all_of (map range_row ranges))

-- how the row of a value is found
abbrev pub how_to_find : Markup
how_to_find =
    plain (codes "p")
    (beside (text (codes "To find a value, follow the link of its range above. The rows below are in the order"))
    (text (codes " of their values; a row such as 65-191 is about each value from 65 to 191.")))

-- ---- The entries

-- what is noted below a description: a title, and other words; nothing where they are empty
abbrev pub title_below : List ℕ → Markup
title_below [] = nothing
title_below (b ∷ more) =
    element (codes "div") (attribute (codes "class") (codes "note") ∷ [])
    (plain (codes "strong") (text (b ∷ more)))

abbrev pub words_below : List ℕ → Markup
words_below [] = nothing
words_below (b ∷ more) =
    element (codes "div") (attribute (codes "class") (codes "note") ∷ []) (text (b ∷ more))

-- what a value is for, and what is noted about it but its reference
abbrev pub description_cell : List ℕ → Option Note → Markup
description_cell words note =
    plain (codes "td")
    (beside (text words) (beside (title_below (title_in note)) (words_below (words_in note))))

-- what the note refers to
abbrev pub reference_cell : Option Note → Markup
reference_cell note = plain (codes "td") (reference_markup (reference_in note))

-- A row by its first value, its values, what they are for, what is noted about them, and its other cells.
-- It is found by v and its first value.
abbrev pub described_row : ℕ → List ℕ → List ℕ → Option Note → List (List ℕ) → Markup
described_row first values description note others =
    row_of (codes "v" ++ decimal first)
    (beside (head_cell (codes "v" ++ decimal first) values)
    (beside (description_cell description note)
    (beside (reference_cell note) (all_of (map cell others)))))

-- the fields of a row of the listing; a policy by its name, of an entry that is held that it is, and what
-- is noted about it
abbrev pub entry_row : Option Note → ListedRow → Markup
entry_row note listed =
    described_row listed.values.lo (run_text listed.values) listed.description note
    (shown_status listed ∷ named_policy listed.policy ∷ first_text listed.entry
    ∷ expiry_text listed.entry ∷ assignee_text listed.entry ∷ [])

-- the same of a registry whose notes these are
abbrev pub noted_row : Option Notes → List ℕ → ListedRow → Markup
noted_row notes name listed = entry_row (note_of_row notes name listed) listed

abbrev pub entry_columns : List (List ℕ)
entry_columns =
    codes "Value" ∷ codes "Description" ∷ codes "Reference" ∷ codes "Status" ∷ codes "Policy"
    ∷ codes "Since" ∷ codes "Expires" ∷ codes "Assignee" ∷ []

abbrev pub entries_table : Option Notes → List ℕ → List ListedRow → Markup
entries_table notes name rows =
    table (codes "values") (codes "Values") entry_columns (all_of (map (noted_row notes name) rows))

-- ---- The page

-- links to the first page, and to the same registry in other files
abbrev pub links : List ℕ → Markup
links name =
    plain (codes "p")
    (all_of
    (link (codes "../index.html") (codes "All registries") ∷ text (codes " ")
    ∷ link (name ++ codes ".csv") (codes "CSV") ∷ text (codes " ")
    ∷ link (name ++ codes ".json") (codes "JSON") ∷ text (codes " ")
    ∷ link (name ++ codes ".xml") (codes "XML") ∷ []))

-- when a registry was last changed; nothing where it is not known
abbrev pub last_changed : List ℕ → Markup
last_changed [] = nothing
last_changed (b ∷ more) =
    plain (codes "p")
    (beside (text (codes "Last changed ")) (plain (codes "time") (text (b ∷ more))))

-- what is noted about a registry, its other files, where to apply, and when it was last changed
abbrev pub intro : Option Notes → List ℕ → List ℕ → Markup
intro notes changed name =
    beside (noted (noted_in notes name))
    (beside (links name) (beside (apply_lines notes) (last_changed changed)))

-- the page of a registry by its notes, its last change, its name, its counts, its entries, its ranges and
-- the rows of its listing
abbrev pub registry_markup : Option Notes → List ℕ → List ℕ → Summary → List PageEntry → List Range
    → List ListedRow → Markup
registry_markup notes changed name counts entries ranges rows =
    page (codes "../style.css") (codes "../changes.atom") name
    (all_of
    (intro notes changed name ∷ bar counts entries ∷ ranges_table ranges ∷ how_to_find
    ∷ entries_table notes name rows ∷ []))

unfoldable pub page_by : Option Notes → List ℕ → List ℕ → Summary → List PageEntry → List Range
    → List ListedRow → List ℕ
page_by notes changed name counts entries ranges rows =
    document (registry_markup notes changed name counts entries ranges rows)

-- the bytes of a registry's page, with these notes and the moment of its last change
abbrev pub registry_page : Option Notes → List ℕ → Page → List ℕ
registry_page notes changed p =
    page_by notes changed p.name (summary p) p.entries p.table.ranges (page_rows p)

-- ---- The same in portions

-- what stands on a page above the rows of its listing, and then the rest
abbrev pub above_rows : Option Notes → List ℕ → List ℕ → Summary → List PageEntry → List Range
    → List ℕ → List ℕ
above_rows notes changed name counts entries ranges rest =
    page_start (codes "../style.css") (codes "../changes.atom") name
    (markup_then (intro notes changed name)
    (markup_then (bar counts entries)
    (markup_then (ranges_table ranges)
    (markup_then how_to_find
    (table_start (codes "values") (codes "Values") entry_columns rest)))))

-- a row up to its description, and then the rest
abbrev pub described_start : ℕ → List ℕ → List ℕ → Option Note → List ℕ → List ℕ
described_start first values description note rest =
    opening_then (codes "tr") (attribute (codes "id") (codes "v" ++ decimal first) ∷ [])
    (markup_then (head_cell (codes "v" ++ decimal first) values)
    (markup_then (description_cell description note) rest))

-- these rows, and what stands below them
abbrev pub rows_left : Option Notes → List ℕ → List ListedRow → List ℕ
rows_left notes name rows = markup_then (all_of (map (noted_row notes name) rows)) below_rows

abbrev pub notes_of : RegistryPage → Option Notes
notes_of p = option_map (λ n. n.now) p.notes

-- what is left of a page by what is given next
abbrev pub left_from : RegistryPage → Next → List ℕ
left_from p next.Above =
    page_by (notes_of p) p.changed.now p.page.now.name (summary p.page.now) p.page.now.entries
    p.page.now.table.ranges (map row_view p.rows.items)
left_from p (next.Row place) =
    rows_left (notes_of p) p.page.now.name (map row_view (drop place p.rows.items))
left_from p next.Nothing = []

-- the bytes of a page that are still to be given
abbrev pub page_left : RegistryPage → List ℕ
page_left p = left_from p p.next
