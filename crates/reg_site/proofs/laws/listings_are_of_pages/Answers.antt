use Rattle.reg_site.proofs.SiteLaws.{listings_are_of_pages}
use Rattle.reg_site.proofs.laws.listings_are_of_pages.Goals as goal

pub returns : goal.returns
returns c = listings_are_of_pages
