use Rattle.std.proofs.Common.{◌≡◌, ◌∷◌, [], Some, map, take, ap, ◌∙◌, subst}
use Rattle.std.proofs.lemmas.List.{take_all}
use Rattle.reg_print.specs.Listing.{header, listing_text, page_rows, row_fields, row_view}
use Rattle.reg_print.specs.Records.{HasWritten}
use Rattle.reg_print.proofs.WrittenRecords.{rows_more}
use Rattle.reg_print.proofs.listing.registry.listing.Goals as goal

pub loop-row-init : goal.loop-row-init
loop-row-init c = c.in_ok-write_header.ensures [] c.empty-writer.ensures

pub loop-row-preserved : goal.loop-row-preserved
loop-row-preserved c =
    let rows = c.deref-row-items.result.now in
    let i = c.loop-row.row-index in
    subst (λ records. HasWritten (λ v. Some v.items) c.write_row.new.writer records)
    (rows_more row_fields row_view header rows i c.row-item.result c.loop-row-test.true
    c.row-item.is)
    (c.in_ok-write_row.ensures (header ∷ map row_fields (map row_view (take i rows)))
    c.loop-row.invariant)

-- all rows were written
pub returns : goal.returns
unfolding listing_text
returns c =
    let rows = c.deref-row-items.result.now in
    let i = c.loop-row.row-index in
    let all : map row_view (take i rows) ≡ page_rows c.args.page.now =
    ap (map row_view) (take_all i rows c.loop-row-test.false ∙ c.deref-row-items.ensures.value)
    ∙ c.in_ok-rows.ensures in
    rw all at (c.text_of.ensures (header ∷ map row_fields (map row_view (take i rows)))
    c.loop-row.invariant)
