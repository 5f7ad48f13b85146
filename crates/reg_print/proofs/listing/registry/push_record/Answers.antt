use Rattle.std.proofs.Common.{◌∷◌, []}
use Rattle.reg_print.specs.Listing.{row_fields, row_view}
use Rattle.reg_print.proofs.listing.registry.push_record.Goals as goal

pub returns : goal.returns
returns c =
    c.push_text_of.ensures (row_fields (row_view c.args.row.now) ∷ [])
    (c.in_ok-write_row.ensures [] c.empty-writer.ensures)
