use Rattle.reg_files.proofs.Slashes.{split_cases}
use Rattle.reg_files.proofs.targets.split.Goals as goal

pub returns : goal.returns
returns c = split_cases c.args.path.now c.rsplit_once.result c.rsplit_once.ensures.cases
