use Rattle.std.proofs.Common.{◌≡◌, ap, ◌∙◌}
use Rattle.std.specs.Prelude.{IfOk}
use Rattle.std.proofs.lemmas.Result.{IfOk-weaker}
use Rattle.reg_ranges.specs.RowReading.{text_rows}
use Rattle.reg_print.specs.BlockListing.{block_listing_text, block_records}
use Rattle.reg_print.specs.Listing.{listing_records, listing_text}
use Rattle.reg_print.proofs.ListingText.{text_rows-block_listing_text, text_rows-listing_text}
use Rattle.reg_print.proofs.answer.told_bytes.Goals as goal

-- the bytes are the listing's text, which reads back
pub returns-in-Sheet-clause-reads_back : goal.returns-in-Sheet-clause-reads_back
returns-in-Sheet-clause-reads_back c =
    let page = c.in-Sheet.page in
    rw c.in-Sheet.is
    (IfOk-weaker c.listing.result (λ v. v.items ≡ listing_text page)
    (λ v. text_rows v.items ≡ listing_records page)
    (λ v h. ap text_rows h ∙ text_rows-listing_text page) c.listing.ensures)

pub returns-in-Blocks-clause-reads_back : goal.returns-in-Blocks-clause-reads_back
returns-in-Blocks-clause-reads_back c =
    let rows = c.in-Blocks.rows in
    let told : IfOk c.block_listing.result (λ v. v.items ≡ block_listing_text rows) =
    rw c.as_slice.ensures at c.block_listing.ensures in
    rw c.in-Blocks.is
    (IfOk-weaker c.block_listing.result (λ v. v.items ≡ block_listing_text rows)
    (λ v. text_rows v.items ≡ block_records rows)
    (λ v h. ap text_rows h ∙ text_rows-block_listing_text rows) told)
