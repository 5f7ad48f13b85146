use Rattle.std.proofs.Common.{◌≡◌, map, take}
use Rattle.std.specs.List.{flat_map}
use Rattle.reg_print.specs.Listing.{range_rows, row_view}
use Rattle.reg_print.proofs.listing.rows.rows.Given as goal

abbrev pub invariant-loop-range : goal.invariant-loop-range
invariant-loop-range l =
    map row_view l.rows.items
    ≡ flat_map (range_rows l.page.entries) (take l.range-index l.page.table.ranges)
