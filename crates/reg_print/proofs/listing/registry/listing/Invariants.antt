use Rattle.std.proofs.Common.{◌∷◌, Some, map, take}
use Rattle.reg_print.specs.Listing.{header, row_fields, row_view}
use Rattle.reg_print.specs.Records.{HasWritten}
use Rattle.reg_print.proofs.listing.registry.listing.Given as goal

abbrev pub invariant-loop-row : goal.invariant-loop-row
invariant-loop-row l =
    HasWritten (λ v. Some v.items) l.writer
    (header ∷ map row_fields (map row_view (take l.row-index l.row-items)))
