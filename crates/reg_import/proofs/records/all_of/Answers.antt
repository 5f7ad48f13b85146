use Rattle.std.proofs.Common.{map, sym}
use Rattle.csv.specs.Records.{fields_of}
use Rattle.reg_import.proofs.records.all_of.Goals as goal

pub returns : goal.returns
returns c = λ text start.
    sym (rw c.in_default.is at
    (c.in_ok-record.ensures.row text (map fields_of c.loop-records.records.items)
    (c.loop-records.invariant text start)))
