use Rattle.reg_laws.proofs.LinksAreTheirPrincipals.{links_are_theirs}
use Rattle.reg_laws.proofs.links_are_their_principals.Goals as goal

pub returns : goal.returns
returns c = links_are_theirs
