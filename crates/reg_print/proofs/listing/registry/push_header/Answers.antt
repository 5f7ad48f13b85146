use Rattle.std.proofs.Common.{◌∷◌, []}
use Rattle.reg_print.specs.Listing.{header}
use Rattle.reg_print.proofs.listing.registry.push_header.Goals as goal

pub returns : goal.returns
returns c =
    c.push_text_of.ensures (header ∷ []) (c.in_ok-write_header.ensures [] c.empty-writer.ensures)
