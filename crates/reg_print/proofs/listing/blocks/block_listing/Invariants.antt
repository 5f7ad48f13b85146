use Rattle.std.proofs.Common.{◌∷◌, Some, map, take}
use Rattle.reg_print.specs.BlockListing.{block_fields, block_header}
use Rattle.reg_print.specs.Records.{HasWritten}
use Rattle.reg_print.proofs.listing.blocks.block_listing.Given as goal

abbrev pub invariant-loop-row : goal.invariant-loop-row
invariant-loop-row l =
    HasWritten (λ v. Some v.items) l.writer (block_header ∷ map block_fields (take l.row-index l.rows))
