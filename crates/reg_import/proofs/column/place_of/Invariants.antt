use Rattle.csv.specs.Records.{fields_of}
use Rattle.reg_import.proofs.Places.{StandsAtNone}
use Rattle.reg_import.proofs.column.place_of.Given as goal

abbrev pub invariant-loop-place : goal.invariant-loop-place
invariant-loop-place l = StandsAtNone (fields_of l.header) l.column l.place
