-- What a body holds: a JSON value or a listing.
use Rattle.std.specs.Prelude.{◌≡◌, ℕ, List, Some}
use Rattle.serde_json.specs.Data.{Data}
use Rattle.serde_json.specs.Read.{read}
use Rattle.serde_json.specs.Written.{compact_text}
use Rattle.reg_ranges.specs.RowReading.{text_rows}
use Rattle.reg_core.specs.declared.holding.Listed.{Listed}
use Rattle.reg_core.specs.declared.page.Page.{Page}
use Rattle.reg_print.specs.declared.answer.Format.{Format}
use Rattle.reg_print.specs.declared.answer.Format.TheVariants as format
use Rattle.reg_print.specs.BlockListing.{block_listing_text, block_records}
use Rattle.reg_print.specs.Listing.{listing_records, listing_text}

-- a body is a JSON value or a listing
pub data Body : Type 0 where
  json : Data → Body
  listing : Page → Body
  block_listing : List Listed → Body

abbrev pub format_of : Body → Format
format_of (json tree) = format.Json
format_of (listing page) = format.Csv
format_of (block_listing rows) = format.Csv

-- JSON without white space, or CSV
abbrev pub text_of : Body → List ℕ
text_of (json tree) = compact_text tree
text_of (listing page) = listing_text page
text_of (block_listing rows) = block_listing_text rows

-- JSON reads back as its value, and a listing as its records
abbrev pub ReadsBack : Body → List ℕ → Type 0
ReadsBack (json tree) bytes = read bytes ≡ Some tree
ReadsBack (listing page) bytes = text_rows bytes ≡ listing_records page
ReadsBack (block_listing rows) bytes = text_rows bytes ≡ block_records rows
