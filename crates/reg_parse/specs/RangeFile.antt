-- The range table that a body is, or its first fault.
use Rattle.std.specs.Prelude.{ℕ, List, Option, Some, None, Result, Ok, Err}
use Rattle.reg_ranges.specs.Faults.{first_fault}
use Rattle.reg_ranges.specs.RangeFile.{file_ranges}
use Rattle.reg_ranges.specs.Tables.{Table}
use Rattle.reg_ranges.specs.declared.range_file.RowFault.{RowFault}
use Rattle.reg_ranges.specs.declared.range_file.RowFault.TheVariants as row
use Rattle.reg_ranges.specs.declared.range.Range.{Range}
use Rattle.reg_ranges.specs.declared.table.RangeFault.{RangeFault}
use Rattle.reg_core.specs.declared.wire_refusal.TableFault.TheVariants as table
use Rattle.reg_core.specs.declared.wire_refusal.WireRefusal.{WireRefusal}
use Rattle.reg_core.specs.declared.wire_refusal.WireRefusal.TheVariants.{Ranges}
use Rattle.reg_json.specs.Members.{Reading, ◌>>=◌}

-- the refusal of a fault that a file has; none has Memory, which is a law
abbrev pub refusal_of_row : RowFault → WireRefusal
refusal_of_row row.Header = Ranges table.Header
refusal_of_row (row.Row n part) = Ranges (table.Row n part)
refusal_of_row row.Memory = Ranges table.Header

abbrev pub or_row_refusal : Result (List Range) RowFault → Reading (List Range)
or_row_refusal (Ok ranges) = Ok ranges
or_row_refusal (Err fault) = Err (refusal_of_row fault)

abbrev pub unless_fault : Option RangeFault → Table → Reading Table
unless_fault None found = Ok found
unless_fault (Some fault) found = Err (Ranges (table.Table fault))

-- the ranges of the file, where they are a partition of 0 to the largest value
unfoldable pub table_of : ℕ → List ℕ → Reading Table
table_of max body = do
  ranges ← or_row_refusal (file_ranges body)
  unless_fault (first_fault max ranges) (record { max = max; ranges = ranges })
