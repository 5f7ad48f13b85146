-- A registry in the form in which IANA publishes registries (XML 1.0), in portions.
use Rattle.std.specs.Prelude.{ℕ, List, [], ◌∷◌, ◌++◌, drop, map, codes, Option, option_map}
use Rattle.reg_core.specs.declared.page.Page.{Page}
use Rattle.reg_early.specs.declared.term.Status.TheVariants as term
use Rattle.reg_pages.specs.Document.{attribute, plain}
use Rattle.reg_pages.specs.Markup.{Attribute, Markup, nothing, text, element, beside, all_of, markup_then, opening_then}
use Rattle.reg_pages.specs.declared.note.Note.{Note}
use Rattle.reg_pages.specs.declared.notes.Notes.{Notes}
use Rattle.reg_print.specs.Listing.{ListedRow, expiry_text, first_text, page_rows, row_view, run_text, whole}
use Rattle.reg_print.specs.declared.listing.rows.RowStatus.{RowStatus}
use Rattle.reg_print.specs.declared.listing.rows.RowStatus.TheVariants.{Unassigned, Reserved, PrivateUse, ExperimentalUse, HierarchicalAllocation, Entry}
use Rattle.reg_ranges.specs.declared.range.Range.{Range}
use Rattle.reg_pages.specs.Noted.{noted_in, note_of_row, reference_in, title_in}
use Rattle.reg_site.specs.Policy.{treatment_name}
use Rattle.reg_pages.specs.Reference.{xref_of}
use Rattle.reg_pages.specs.declared.portions.Next.{Next}
use Rattle.reg_pages.specs.declared.portions.Next.TheVariants as next
use Rattle.reg_site.specs.declared.records.RegistryRecords.{RegistryRecords}

-- ---- A record

-- the day on which an entry was approved, as an attribute
abbrev pub dated : List ℕ → List Attribute
dated [] = []
dated (d ∷ day) = attribute (codes "date") (d ∷ day) ∷ []

-- What stands behind the words of a row that has no entry for good: as RFC 7120 (section 3.1) has
-- registries show early allocations, in capitals, with their days.
abbrev pub early_text : List ℕ → List ℕ → List ℕ → List ℕ
early_text word first expires =
    codes " (" ++ (word ++ (codes " - registered " ++ (first ++ (codes ", expires " ++ (expires ++ codes ")")))))

-- what a row is for: of an entry its label, and the days of an early allocation; else the words for values
-- that have none, and the note of their range
abbrev pub described : RowStatus → List ℕ → List ℕ → List ℕ → List ℕ
described (Entry term.Assigned) label first expires = label
described (Entry term.Temporary) label first expires =
    label ++ early_text (codes "TEMPORARY") first expires
described (Entry term.Expired) label first expires =
    label ++ early_text (codes "EXPIRED") first expires
described Unassigned note first expires = codes "Unassigned"
described Reserved note first expires = codes "Reserved"
described PrivateUse note first expires = codes "Private Use"
described ExperimentalUse note first expires = codes "Experimental Use"
described HierarchicalAllocation note first expires = codes "Hierarchical Allocation"

-- a record on a line of its own, by its day, its values, what they are for, and what is noted
abbrev pub record_by : List ℕ → List ℕ → List ℕ → Option Note → Markup
record_by first values words note =
    beside
    (element (codes "record") (dated first)
    (beside (plain (codes "value") (text values))
    (beside (plain (codes "description") (text words)) (xref_of (reference_in note)))))
    (text (codes "\n"))

-- the record of a row, with what is noted about its entry
abbrev pub record_with : ListedRow → Option Note → Markup
record_with listed note =
    record_by (first_text listed.entry) (run_text listed.values)
    (described listed.status listed.description (first_text listed.entry) (expiry_text listed.entry))
    note

-- the same of a registry whose notes these are
abbrev pub record_of : Option Notes → List ℕ → ListedRow → Markup
record_of notes name listed = record_with listed (note_of_row notes name listed)

-- ---- A range

-- a range by its values and its policy
abbrev pub range_by : List ℕ → List ℕ → Markup
range_by values rule =
    beside
    (plain (codes "range")
    (beside (plain (codes "value") (text values))
    (plain (codes "registration_rule") (text rule))))
    (text (codes "\n"))

-- a range with the name of its policy
abbrev pub range_of : Range → Markup
range_of range = range_by (run_text (whole range)) (treatment_name range.treatment)

-- ---- The file

-- the title that is noted, or else the name
abbrev pub title_or : List ℕ → List ℕ → List ℕ
title_or [] name = name
title_or (b ∷ title) name = b ∷ title

-- the same of a note
abbrev pub title_of : Option Note → List ℕ → List ℕ
title_of note name = title_or (title_in note) name

-- the day of the last change; nothing where it is not known
abbrev pub updated : List ℕ → Markup
updated [] = nothing
updated (d ∷ day) = beside (plain (codes "updated") (text (d ∷ day))) (text (codes "\n"))

-- the attributes of a registry
abbrev pub registry_attributes : List ℕ → List Attribute
registry_attributes name =
    attribute (codes "xmlns") (codes "http://www.iana.org/assignments")
    ∷ attribute (codes "id") name ∷ []

-- a registry by its name, its title, the day of its last change, its ranges and its records
abbrev pub registry_element : List ℕ → List ℕ → List ℕ → List Range → Markup → Markup
registry_element name title day ranges records =
    element (codes "registry") (registry_attributes name)
    (beside (text (codes "\n"))
    (beside (plain (codes "title") (text title))
    (beside (text (codes "\n"))
    (beside (updated day)
    (beside (all_of (map range_of ranges)) records)))))

-- what each file in XML begins with
abbrev pub declaration : List ℕ
declaration = codes "<?xml version=\"1.0\" encoding=\"UTF-8\"?>\n"

-- the bytes of the file
unfoldable pub records_by : Option Notes → List ℕ → List ℕ → List Range → List ListedRow → List ℕ
records_by notes name day ranges rows =
    declaration
    ++ markup_then
    (registry_element name (title_of (noted_in notes name) name) day ranges
    (all_of (map (record_of notes name) rows)))
    (codes "\n")

-- the bytes of a registry in IANA's form, by the day of its last change
abbrev pub records_text : Option Notes → List ℕ → Page → List ℕ
records_text notes day p = records_by notes p.name day p.table.ranges (page_rows p)

-- ---- The same in portions

abbrev pub title_start : List ℕ → List ℕ → List ℕ → List ℕ
title_start name title rest =
    declaration
    ++ opening_then (codes "registry") (registry_attributes name)
    (codes "\n" ++ markup_then (plain (codes "title") (text title)) (codes "\n" ++ rest))

-- what stands above the records, and then the rest
abbrev pub above_records : List ℕ → List ℕ → List ℕ → List Range → List ℕ → List ℕ
above_records name title day ranges rest =
    title_start name title
    (markup_then (updated day) (markup_then (all_of (map range_of ranges)) rest))

-- what stands below the records
abbrev pub below_records : List ℕ
below_records = codes "</registry>\n"

-- these records, and what stands below them
abbrev pub records_after : Option Notes → List ℕ → List ListedRow → List ℕ
records_after notes name rows = markup_then (all_of (map (record_of notes name) rows)) below_records

abbrev pub notes_of : RegistryRecords → Option Notes
notes_of r = option_map (λ n. n.now) r.notes

-- what is left of the file by what is given next
abbrev pub left_from : RegistryRecords → Next → List ℕ
left_from r next.Above =
    records_by (notes_of r) r.page.now.name r.day.now r.page.now.table.ranges (map row_view r.rows.items)
left_from r (next.Row place) =
    records_after (notes_of r) r.page.now.name (map row_view (drop place r.rows.items))
left_from r next.Nothing = []

-- the bytes of the file that are still to be given
abbrev pub records_left : RegistryRecords → List ℕ
records_left r = left_from r r.next
