use Rattle.reg_parse.proofs.ShownPaths.{hidden}
use Rattle.reg_parse.proofs.laws.paths_of_tokens_are_hidden.Goals as goal

pub returns : goal.returns
returns c = hidden
