-- The texts that name the faults of a range file and of its ranges.
use Rattle.std.specs.Prelude.{ℕ, List, ◌++◌, codes}
use Rattle.std.specs.Fmt.{decimal}
use Rattle.reg_ranges.specs.declared.table.RangeFault.{RangeFault}
use Rattle.reg_ranges.specs.declared.table.RangeFault.TheVariants as range
use Rattle.reg_ranges.specs.declared.range_file.RowPart.{RowPart}
use Rattle.reg_ranges.specs.declared.range_file.RowPart.TheVariants as part
use Rattle.reg_ranges.specs.declared.range_file.RowFault.{RowFault}
use Rattle.reg_ranges.specs.declared.range_file.RowFault.TheVariants as row

-- the texts of faults
abbrev pub range_fault_text : RangeFault → List ℕ
range_fault_text range.Empty = codes "empty"
range_fault_text range.TooMany = codes "too-many"
range_fault_text (range.Order i) = codes "order " ++ decimal i
range_fault_text (range.Gap i) = codes "gap " ++ decimal i
range_fault_text (range.Overlap i) = codes "overlap " ++ decimal i
range_fault_text range.End = codes "end"

abbrev pub part_word : RowPart → List ℕ
part_word part.Columns = codes "columns"
part_word part.Number = codes "number"
part_word part.Treatment = codes "treatment"
part_word part.Text = codes "text"

abbrev pub row_fault_text : RowFault → List ℕ
row_fault_text row.Header = codes "header"
row_fault_text (row.Row n p) = codes "row " ++ decimal n ++ codes " " ++ part_word p
row_fault_text row.Memory = codes "memory"
