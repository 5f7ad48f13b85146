-- Listings that are printed read back as their records.
use Rattle.std.proofs.Common.{◌≡◌, ℕ, zero, suc, ◌+◌, ◌<◌, ◌≤◌, List, [], ◌∷◌, ◌++◌, map, length, length-append, None, refl, ap, arith}
use Rattle.std.proofs.lemmas.Grind.{flat_map-append}
use Rattle.csv.specs.Machine.{next_record}
use Rattle.csv.specs.Reading.{default_config, records_from, strip_bom}
use Rattle.csv.specs.Writing.{default_writer, escaped, fields_text, is_blank, row_text}
use Rattle.csv.specs.declared.parser.State.TheVariants as st
use Rattle.csv.proofs.RoundTrip.{read-write}
use Rattle.reg_ranges.specs.RowReading.{text_rows}
use Rattle.reg_core.specs.declared.holding.Listed.{Listed}
use Rattle.reg_core.specs.declared.page.Page.{Page}
use Rattle.reg_print.specs.BlockListing.{block_fields, block_header, block_listing_text, block_records}
use Rattle.reg_print.specs.Listing.{ListedRow, csv_text, header, page_rows, row_fields, listing_records, listing_text}

-- each record has a field
abbrev HaveFields : List (List (List ℕ)) → Type 0
HaveFields [] = Unit {0}
HaveFields ([] ∷ rows) = ⊥
HaveFields ((x ∷ xs) ∷ rows) = HaveFields rows

-- nothing has no record
next_record-nothing : next_record default_config st.StartRecord [] [] [] ≡ None
unfolding next_record
next_record-nothing = refl

-- records that are written are read back, by so many readings at least
read-csv_text : (n : ℕ) (rows : List (List (List ℕ))) → length rows ≤ n → HaveFields rows
    → records_from default_config n st.StartRecord (csv_text rows) ≡ rows
unfolding records_from
read-csv_text zero [] h f = refl
read-csv_text (suc n) [] h f = rw next_record-nothing refl
read-csv_text zero (row ∷ rows) h f = absurd (omega arith)
read-csv_text (suc n) ([] ∷ rows) h f = absurd f
read-csv_text (suc n) ((x ∷ xs) ∷ rows) h f =
    rw (read-write (x ∷ xs) (csv_text rows))
    (ap (λ (t : List (List (List ℕ))). (x ∷ xs) ∷ t) (read-csv_text n rows (omega arith) f))

-- a record has a byte at least, its line feed
row_text-long : (row : List (List ℕ)) → 1 ≤ length (row_text default_writer row)
row_text-long row = simp length-append (omega arith)

csv_text-long : (rows : List (List (List ℕ))) → length rows ≤ length (csv_text rows)
csv_text-long [] = omega arith
csv_text-long (row ∷ rows) =
    let here = row_text-long row in
    let more = csv_text-long rows in
    omega (arith, length-append (row_text default_writer row) (csv_text rows))

-- a record has a byte
pub record_some : (fields : List (List ℕ)) → 0 < length (csv_text (fields ∷ []))
record_some fields = let long = csv_text-long (fields ∷ []) in omega (arith, long)

-- records are the first of them, and then the others
pub record_then : (fields : List (List ℕ)) (records : List (List (List ℕ)))
    → csv_text (fields ∷ records) ≡ csv_text (fields ∷ []) ++ csv_text records
record_then fields records = flat_map-append (row_text default_writer) (fields ∷ []) records

rows_have_fields : (rows : List ListedRow) → HaveFields (map row_fields rows)
rows_have_fields [] = tt
rows_have_fields (row ∷ rows) = rows_have_fields rows

blocks_have_fields : (rows : List Listed) → HaveFields (map block_fields rows)
blocks_have_fields [] = tt
blocks_have_fields (row ∷ rows) = blocks_have_fields rows

-- a listing has no byte order mark
strip_bom-listing : (rows : List (List (List ℕ)))
    → strip_bom (csv_text (header ∷ rows)) ≡ csv_text (header ∷ rows)
unfolding strip_bom fields_text is_blank escaped
strip_bom-listing rows = refl

strip_bom-blocks : (rows : List (List (List ℕ)))
    → strip_bom (csv_text (block_header ∷ rows)) ≡ csv_text (block_header ∷ rows)
unfolding strip_bom fields_text is_blank escaped
strip_bom-blocks rows = refl

-- the records that are read of CSV without a byte order mark are its own
text_rows-csv_text : (records : List (List (List ℕ)))
    → strip_bom (csv_text records) ≡ csv_text records → HaveFields records
    → text_rows (csv_text records) ≡ records
text_rows-csv_text records bare fields =
    rw bare
    (read-csv_text (length (csv_text records) + 1) records
    (let long = csv_text-long records in omega arith) fields)

pub text_rows-listing_text : (page : Page) → text_rows (listing_text page) ≡ listing_records page
unfolding listing_text
text_rows-listing_text page =
    text_rows-csv_text (listing_records page) (strip_bom-listing (map row_fields (page_rows page)))
    (rows_have_fields (page_rows page))

pub text_rows-block_listing_text : (rows : List Listed)
    → text_rows (block_listing_text rows) ≡ block_records rows
unfolding block_listing_text
text_rows-block_listing_text rows =
    text_rows-csv_text (block_records rows) (strip_bom-blocks (map block_fields rows))
    (blocks_have_fields rows)
