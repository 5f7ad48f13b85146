-- The laws of listings.
use Rattle.std.specs.Prelude.{◌≡◌, ℕ, ◌+◌, ◌≤◌, List, [], ◌∷◌, map}
use Rattle.std.specs.List.Sorted.{IsStrictlyIncreasing}
use Rattle.reg_ranges.specs.declared.range.Range.{Range}
use Rattle.reg_core.specs.declared.entry.PageEntry.{PageEntry}
use Rattle.reg_print.specs.Listing.{ListedRow, range_rows}

-- the rows have the values from `next` on and below `end`, each in one row, and each row has one at
-- least
abbrev pub Cover : ℕ → ℕ → List ListedRow → Type 0
Cover next end [] = next ≡ end
Cover next end (row ∷ rows) =
    (row.values.lo ≡ next) × (next ≤ row.values.hi) × Cover (row.values.hi + 1) end rows

-- the rows of a range have its values, each in one row, where the values of the entries ascend
abbrev pub RowsCoverRanges : Type 0
RowsCoverRanges =
    (entries : List PageEntry) (range : Range) → IsStrictlyIncreasing (map (λ e. e.value) entries)
    → range.lo ≤ range.hi → Cover range.lo (range.hi + 1) (range_rows entries range)
