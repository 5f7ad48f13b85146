use Rattle.std.proofs.Common.{ℕ, List, [], map}
use Rattle.csv.specs.Reading.{owned_rows_left}
use Rattle.csv.specs.Records.{fields_of}
use Rattle.reg_ranges.specs.RowReading.{HasRead}
use Rattle.reg_import.proofs.records.all_of.Given as goal

abbrev pub invariant-loop-records : goal.invariant-loop-records
invariant-loop-records l =
    (text : List ℕ) → HasRead text [] l.fn.rows → HasRead text (map fields_of l.records.items) l.rows

abbrev pub decreases-loop-records : goal.decreases-loop-records
decreases-loop-records l = owned_rows_left l.rows
