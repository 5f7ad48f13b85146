-- The bytes of answers.
use Rattle.std.proofs.Common.{◌≡◌, List, refl}
use Rattle.reg_core.specs.declared.holding.Listed.{Listed}
use Rattle.reg_core.specs.declared.page.Page.{Page}
use Rattle.reg_core.specs.declared.told.Told.TheVariants as tells
use Rattle.reg_print.specs.Answer.{body_text}
use Rattle.reg_print.specs.BlockListing.{block_listing_text}
use Rattle.reg_print.specs.Listing.{listing_text}
use Rattle.reg_site.specs.Site.{told_text}

-- a listing is the body of its answer
pub listing_told : (page : Page) → listing_text page ≡ told_text (tells.Sheet page)
unfolding body_text
listing_told page = refl

pub blocks_told : (rows : List Listed) → block_listing_text rows ≡ told_text (tells.Blocks rows)
unfolding body_text
blocks_told rows = refl
