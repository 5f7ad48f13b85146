use Rattle.std.proofs.Common.{◌≡◌, ◌∷◌, [], false, true, rules, length}
use Rattle.csv.specs.Records.{fields_of}
use Rattle.reg_ranges.specs.RangeFile.{is_header}
use Rattle.reg_ranges.proofs.RangeFileRows.{no_rows, other_header, reads_start, row_after, is_fault_after, reads_end}
use Rattle.reg_ranges.proofs.range_file.ranges_of.Goals as goal

pub returns-in_default-clause-fault : goal.returns-in_default-clause-fault
returns-in_default-clause-fault c = λ text start.
    no_rows text (rw c.in_default.is at (c.in_ok-first.ensures.row text [] start))

pub returns-then-not-is_header-clause-fault : goal.returns-then-not-is_header-clause-fault
returns-then-not-is_header-clause-fault c = λ text start.
    let named : is_header (fields_of c.in-Some.first) ≡ false = search rules in
    other_header text c.next_row.new.rows (fields_of c.in-Some.first)
    (rw c.in-Some.is at (c.in_ok-first.ensures.row text [] start))
    named

pub loop-ranges-init : goal.loop-ranges-init
loop-ranges-init c = λ text start.
    let named : is_header (fields_of c.in-Some.first) ≡ true = search rules in
    rw c.new-ranges.ensures.items
    (reads_start text c.next_row.new.rows (fields_of c.in-Some.first)
    (rw c.in-Some.is at (c.in_ok-first.ensures.row text [] start))
    named)

pub returns-in_err-range-clause-fault : goal.returns-in_err-range-clause-fault
returns-in_err-range-clause-fault c = λ text start.
    let r = c.loop-ranges.invariant text start in
    let read =
    rw c.in-Some-2.is at (c.in_ok-row.ensures.row text (r.first ∷ r.done) r.read) in
    let n : c.len.result ≡ length c.loop-ranges.ranges.items = search rules in
    let is =
    is_fault_after text c.loop-ranges.rows c.next_row-in-loop-ranges.new.rows
    c.loop-ranges.ranges.items (fields_of c.in-Some-2.row) c.in_err-range.field-0.0 r read
    (rw n at c.in_err-range.ensures.fault) in
    search (rules, is)

pub loop-ranges-preserved : goal.loop-ranges-preserved
loop-ranges-preserved c = λ text start.
    let r = c.loop-ranges.invariant text start in
    let read =
    rw c.in-Some-2.is at (c.in_ok-row.ensures.row text (r.first ∷ r.done) r.read) in
    let n : c.len.result ≡ length c.loop-ranges.ranges.items = search rules in
    rw c.in_ok-push.ensures.items
    (row_after text c.loop-ranges.rows c.next_row-in-loop-ranges.new.rows
    c.loop-ranges.ranges.items (fields_of c.in-Some-2.row) c.in_ok-range.range r read
    (rw n at c.in_ok-range.ensures.range))

pub returns-clause-ranges : goal.returns-clause-ranges
returns-clause-ranges c = λ text start.
    let r = c.loop-ranges.invariant text start in
    reads_end text c.loop-ranges.rows c.loop-ranges.ranges.items r
    (rw c.in_default-2.is at
    (c.in_ok-row.ensures.row text (r.first ∷ r.done) r.read))
