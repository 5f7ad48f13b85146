use Rattle.std.proofs.Common.{◌∷◌, [], Some, map, take, subst}
use Rattle.std.proofs.lemmas.List.{take_all}
use Rattle.reg_print.specs.BlockListing.{block_fields, block_header, block_listing_text}
use Rattle.reg_print.specs.Records.{HasWritten}
use Rattle.reg_print.proofs.WrittenRecords.{records_more}
use Rattle.reg_print.proofs.listing.blocks.block_listing.Goals as goal

pub loop-row-init : goal.loop-row-init
loop-row-init c = c.in_ok-write_header.ensures [] c.empty-writer.ensures

pub loop-row-preserved : goal.loop-row-preserved
loop-row-preserved c =
    let rows = c.args.rows.now in
    let i = c.loop-row.row-index in
    subst (λ records. HasWritten (λ v. Some v.items) c.write_row.new.writer records)
    (records_more block_fields block_header rows i c.row-item.result c.loop-row-test.true
    c.row-item.is)
    (c.in_ok-write_row.ensures (block_header ∷ map block_fields (take i rows))
    c.loop-row.invariant)

-- all rows were written
pub returns : goal.returns
unfolding block_listing_text
returns c =
    let rows = c.args.rows.now in
    let i = c.loop-row.row-index in
    rw (take_all i rows c.loop-row-test.false) at
    (c.text_of.ensures (block_header ∷ map block_fields (take i rows)) c.loop-row.invariant)
