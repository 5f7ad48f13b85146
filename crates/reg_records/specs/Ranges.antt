-- Ranges of registries as rows of the table `ranges`.
use Rattle.std.specs.Prelude.{ℕ, Bool, ◌&&◌, List, [], ◌∷◌, Option, Some, None, option_map, unwrap_or}
use Rattle.sqlite.specs.Order.{Row, column}
use Rattle.sqlite.specs.declared.types.Value.TheVariants.{Text}
use Rattle.reg_core.specs.Names.{is_name}
use Rattle.reg_ranges.specs.Forms.{has_range_form}
use Rattle.reg_ranges.specs.Texts.{is_text, read_text}
use Rattle.reg_ranges.specs.Words.{read_treatment, treatment_word}
use Rattle.reg_records.specs.Columns.{formed_in, given, is_number, number_in, read_in, whole_value}
use Rattle.reg_records.specs.declared.ranges.RegistryRange.{RegistryRange}

-- the empty text stands for no note
abbrev pub read_note : List ℕ → Option (Option (List ℕ))
read_note [] = Some None
read_note (byte ∷ rest) = option_map Some (read_text is_text (byte ∷ rest))

abbrev pub note_text : Option (List ℕ) → List ℕ
note_text note = unwrap_or note []

-- the columns that are selected: registry, lo, hi, treatment, note
abbrev pub range_columns : Row → Row
range_columns row =
    column row 0 ∷ column row 1 ∷ column row 2 ∷ column row 3 ∷ column row 4 ∷ []

-- the range that a row holds, where each column has its form
abbrev pub range_in : Row → Option RegistryRange
range_in row =
    given (formed_in is_name (column row 0)) (λ registry.
    given (number_in is_number (column row 1)) (λ lo.
    given (number_in is_number (column row 2)) (λ hi.
    given (read_in read_treatment (column row 3)) (λ treatment.
    given (read_in read_note (column row 4)) (λ note.
    Some (record {
      registry = registry;
      range = record { lo = lo; hi = hi; treatment = treatment; note = note };
    }))))))

-- the row that is written for it
abbrev pub range_values : RegistryRange → Row
range_values row =
    Text row.registry ∷ whole_value row.range.lo ∷ whole_value row.range.hi
    ∷ Text (treatment_word row.range.treatment) ∷ Text (note_text row.range.note) ∷ []

-- its registry has a name, its ends have 32 bits, and its note is a text
abbrev pub is_registry_range : RegistryRange → Bool
is_registry_range row =
    is_name row.registry && is_number row.range.lo && is_number row.range.hi
    && has_range_form row.range
