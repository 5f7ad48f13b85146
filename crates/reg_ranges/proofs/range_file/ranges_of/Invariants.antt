use Rattle.std.proofs.Common.{ℕ, List, []}
use Rattle.csv.specs.Reading.{owned_rows_left}
use Rattle.reg_ranges.specs.RowReading.{HasRead}
use Rattle.reg_ranges.proofs.RangeFileRows.{Reads}
use Rattle.reg_ranges.proofs.range_file.ranges_of.Given as goal

abbrev pub invariant-loop-ranges : goal.invariant-loop-ranges
invariant-loop-ranges l =
    (text : List ℕ) → HasRead text [] l.fn.rows → Reads text l.rows l.ranges.items

abbrev pub decreases-loop-ranges : goal.decreases-loop-ranges
decreases-loop-ranges l = owned_rows_left l.rows
