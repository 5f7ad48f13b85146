-- What faults of range files are called, and which refusals they are.
use Rattle.std.specs.Prelude.{ℕ, List}
use Rattle.reg_ranges.specs.FaultTexts.{range_fault_text, row_fault_text}
use Rattle.reg_ranges.specs.declared.range_file.RowFault.{RowFault}
use Rattle.reg_ranges.specs.declared.range_file.RowFault.TheVariants as row
use Rattle.reg_ranges.specs.declared.table.RangeFault.{RangeFault}
use Rattle.reg_core.specs.declared.wire_refusal.ReadFault.{ReadFault}
use Rattle.reg_core.specs.declared.wire_refusal.ReadFault.TheVariants as read
use Rattle.reg_core.specs.declared.wire_refusal.TableFault.{TableFault}
use Rattle.reg_core.specs.declared.wire_refusal.TableFault.TheVariants as table
use Rattle.reg_core.specs.declared.wire_refusal.WireRefusal.TheVariants.{Ranges}

-- the fault of a range file, or that of its ranges
abbrev pub table_fault_text : TableFault → List ℕ
table_fault_text table.Header = row_fault_text row.Header
table_fault_text (table.Row n part) = row_fault_text (row.Row n part)
table_fault_text (table.Table fault) = range_fault_text fault

-- the fault of reading that a fault of a range file is
abbrev pub fault_of_row : RowFault → ReadFault
fault_of_row row.Header = read.Refused (Ranges table.Header)
fault_of_row (row.Row n part) = read.Refused (Ranges (table.Row n part))
fault_of_row row.Memory = read.Memory

abbrev pub fault_of_table : RangeFault → ReadFault
fault_of_table fault = read.Refused (Ranges (table.Table fault))
