use Rattle.std.proofs.Common.{◌+◌, [], ◌∷◌, drop, map, arith, rules}
use Rattle.csv.specs.Records.{fields_of}
use Rattle.reg_import.proofs.Registers.{HasWritten, is_fault_met, none_left, row_at, written_all, written_next}
use Rattle.reg_import.proofs.import.script_of_rows.Goals as goal

pub returns-in_err-push_row-clause-fault : goal.returns-in_err-push_row-clause-fault
returns-in_err-push_row-clause-fault c =
    let by = c.args.import.now in
    let header = fields_of c.args.header.now in
    let rows = map fields_of c.args.rows.now in
    let here = row_at fields_of c.args.rows.now c.loop-i.i c.index-rows-i.result
    c.loop-i-test.true c.index-rows-i.is in
    let whole : HasWritten by header rows (c.loop-i.i + 1)
    (fields_of c.index-rows-i.result ∷ drop (c.loop-i.i + 1) rows) c.loop-i.script.items =
    rw here at c.loop-i.invariant in
    let met = is_fault_met by header rows (c.loop-i.i + 1) (fields_of c.index-rows-i.result)
    (drop (c.loop-i.i + 1) rows) c.loop-i.script.items c.in_err-push_row.field-0.0 whole
    c.in_err-push_row.ensures.fault in
    search (rules, met)

pub loop-i-preserved : goal.loop-i-preserved
loop-i-preserved c =
    let by = c.args.import.now in
    let header = fields_of c.args.header.now in
    let rows = map fields_of c.args.rows.now in
    let here = row_at fields_of c.args.rows.now c.loop-i.i c.index-rows-i.result
    c.loop-i-test.true c.index-rows-i.is in
    let whole : HasWritten by header rows (c.loop-i.i + 1)
    (fields_of c.index-rows-i.result ∷ drop (c.loop-i.i + 1) rows) c.loop-i.script.items =
    rw here at c.loop-i.invariant in
    written_next by header rows (c.loop-i.i + 1) (fields_of c.index-rows-i.result)
    (drop (c.loop-i.i + 1) rows) c.loop-i.script.items c.push_row.new.script.items whole
    c.in_ok-push_row.ensures.lines

pub returns-clause-script : goal.returns-clause-script
returns-clause-script c =
    let by = c.args.import.now in
    let header = fields_of c.args.header.now in
    let rows = map fields_of c.args.rows.now in
    let none = none_left fields_of c.args.rows.now c.loop-i.i (omega arith) in
    let whole : HasWritten by header rows (c.loop-i.i + 1) [] c.loop-i.script.items =
    rw none at c.loop-i.invariant in
    written_all by header rows (c.loop-i.i + 1) c.loop-i.script.items whole
