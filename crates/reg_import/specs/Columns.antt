-- The columns of a register: which words stand above them, and what stands below.
use Rattle.std.specs.Prelude.{ℕ, suc, ◌-◌, ◌==◌, ◌&&◌, Bool, false, List, [], ◌∷◌, length, filter, Option, Some, None, is_some, option_and_then, option_map, unwrap_or, codes, if◌then◌else◌}
use Rattle.std.specs.Str.{bytes_eq}
use Rattle.csv.specs.Records.{field_at, fields_of}
use Rattle.reg_import.specs.declared.column.Column.{Column}
use Rattle.reg_import.specs.declared.column.Column.TheVariants as column
use Rattle.reg_import.specs.declared.fields.RowFields.{RowFields}

-- the word above a column
abbrev pub column_word : Column → List ℕ
column_word column.Value = codes "Value"
column_word column.Description = codes "Description"
column_word column.Status = codes "Status"
column_word column.Policy = codes "Policy"
column_word column.First = codes "First"
column_word column.Expires = codes "Expires"
column_word column.Assignee = codes "Assignee"
column_word column.Contact = codes "Contact"
column_word column.Specification = codes "Specification"
column_word column.Rfc = codes "Rfc"
column_word column.Stream = codes "Stream"
column_word column.Track = codes "Track"
column_word column.Minute = codes "Minute"
column_word column.Draft = codes "Draft"
column_word column.Stable = codes "Stable"
column_word column.Interest = codes "Interest"
column_word column.Chair = codes "Chair"
column_word column.Director = codes "Director"
column_word column.WillBeRfc = codes "WillBeRfc"
column_word column.Held = codes "Held"

-- the columns that may follow those of a listing
abbrev pub optional_columns : List Column
optional_columns =
    column.Contact ∷ column.Specification ∷ column.Rfc ∷ column.Stream ∷ column.Track
    ∷ column.Minute ∷ column.Draft ∷ column.Stable ∷ column.Interest ∷ column.Chair
    ∷ column.Director ∷ column.WillBeRfc ∷ column.Held ∷ []

-- the place of a column in a header, if it is there
abbrev pub place_of : List (List ℕ) → Column → Option ℕ
place_of [] column = None
place_of (word ∷ header) column =
    if bytes_eq word (column_word column) then Some 0 else option_map suc (place_of header column)

abbrev pub is_named : List (List ℕ) → Column → Bool
is_named header column = is_some (place_of header column)

-- a column's word is this field
abbrev pub is_word_of : Column → Option (List ℕ) → Bool
is_word_of column None = false
is_word_of column (Some field) = bytes_eq field (column_word column)

-- a header has a column at this place
abbrev pub stands_at : List (List ℕ) → ℕ → Column → Bool
stands_at header place column = is_word_of column (field_at header place)

-- it begins with the columns of a listing
abbrev pub is_listing_header : List (List ℕ) → Bool
is_listing_header header =
    stands_at header 0 column.Value
    && (stands_at header 1 column.Description
    && (stands_at header 2 column.Status
    && (stands_at header 3 column.Policy
    && (stands_at header 4 column.First
    && (stands_at header 5 column.Expires
    && stands_at header 6 column.Assignee)))))

-- how many of the optional columns it has
abbrev pub known_columns : List (List ℕ) → ℕ
known_columns header = length (filter (is_named header) optional_columns)

-- the columns of a listing in their order, and then optional ones: none but these, and none twice,
-- since there are just so many more columns as optional ones are there
unfoldable pub is_header : List (List ℕ) → Bool
is_header header = is_listing_header header && length header - 7 == known_columns header

-- what stands in a column of a row; nothing where the header has no such column
abbrev pub field_in : List (List ℕ) → List (List ℕ) → Column → List ℕ
field_in header fields column =
    unwrap_or (option_and_then (field_at fields) (place_of header column)) []

-- the same of a row below its header
abbrev pub stands_in : RowFields → Column → List ℕ
stands_in fields column =
    field_in (fields_of fields.header.now) (fields_of fields.row.now) column
