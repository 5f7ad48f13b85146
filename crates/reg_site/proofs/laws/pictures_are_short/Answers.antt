use Rattle.reg_site.proofs.ShortPictures.{pictures_are_short}
use Rattle.reg_site.proofs.laws.pictures_are_short.Goals as goal

pub returns : goal.returns
returns c = pictures_are_short
