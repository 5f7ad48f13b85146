use Rattle.std.proofs.Common.{◌∷◌, ap}
use Rattle.reg_print.specs.Listing.{csv_text, header, listing_text}
use Rattle.reg_site.specs.Listing.{records}
use Rattle.reg_site.proofs.listing.RegistryCsv.of.Goals as goal

pub returns : goal.returns
unfolding listing_text
returns c = ap (λ rows. csv_text (header ∷ records rows)) c.in_ok-rows.ensures
