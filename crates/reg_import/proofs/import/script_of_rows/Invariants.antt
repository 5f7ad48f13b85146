use Rattle.std.proofs.Common.{◌+◌, map, drop}
use Rattle.csv.specs.Records.{fields_of}
use Rattle.reg_import.proofs.Registers.{HasWritten}
use Rattle.reg_import.proofs.import.script_of_rows.Given as goal

abbrev pub invariant-loop-i : goal.invariant-loop-i
invariant-loop-i l =
    HasWritten l.import (fields_of l.header) (map fields_of l.rows) (l.i + 1)
    (drop l.i (map fields_of l.rows)) l.script.items
