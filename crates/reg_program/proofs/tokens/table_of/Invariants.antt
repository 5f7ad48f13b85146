use Rattle.std.proofs.Common.{◌∷◌, ℕ, List, Some, take}
use Rattle.std.specs.List.{AllZip}
use Rattle.reg_print.specs.Records.{HasWritten}
use Rattle.reg_program.specs.Tokens.{IsRecord, header}
use Rattle.reg_program.proofs.tokens.table_of.Given as goal

-- the header and the records of the rows so far were written
abbrev pub invariant-loop-row : goal.invariant-loop-row
invariant-loop-row l =
    (records : List (List (List ℕ))) × AllZip IsRecord (take l.row-index l.rows) records
    × HasWritten (λ v. Some v.items) l.writer (header ∷ records)
