use Rattle.reg_laws.proofs.ClerkLists.{all_listed}
use Rattle.reg_laws.proofs.all_requests_are_listed.Goals as goal

pub returns : goal.returns
returns c = all_listed
