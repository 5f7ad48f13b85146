use Rattle.reg_site.proofs.SiteLaws.{files_stay_inside}
use Rattle.reg_site.proofs.laws.files_stay_inside.Goals as goal

pub returns : goal.returns
returns c = files_stay_inside
