use Rattle.std.proofs.Common.{◌≡◌, ◌≤◌, ◌^◌, ◌++◌, map, drop}
use Rattle.reg_print.specs.Listing.{row_view, rows_from}
use Rattle.reg_print.proofs.listing.rows.push_open.Given as goal

-- the rows so far and those of what is left are all
abbrev pub invariant-loop-entry : goal.invariant-loop-entry
invariant-loop-entry l = record {
  told : map row_view l.rows.items
      ++ rows_from l.range l.next (drop l.entry-index l.entries)
      ≡ map row_view l.fn.rows.items ++ rows_from l.range l.range.lo l.entries;
  within : l.next ≤ 2 ^ 32;
}
