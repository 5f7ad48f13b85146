use Rattle.reg_parse.proofs.ShownPaths.{shown-alike}
use Rattle.reg_parse.proofs.laws.private_paths_are_shown_alike.Goals as goal

pub returns : goal.returns
returns c = shown-alike
