use Rattle.std.proofs.Common.{◌∷◌, Some, map, take}
use Rattle.reg_print.specs.Records.{HasWritten}
use Rattle.reg_client.specs.Table.{due_fields, due_header}
use Rattle.reg_client.proofs.table.table_of.Given as goal

abbrev pub invariant-loop-one : goal.invariant-loop-one
invariant-loop-one l =
    HasWritten (λ v. Some v.items) l.writer (due_header ∷ map due_fields (take l.one-index l.due))
