use Rattle.reg_core.proofs.Keeping.RunsKeepWell.{runs_keep}
use Rattle.reg_laws.proofs.runs_keep_well.Goals as goal

pub returns : goal.returns
returns c = runs_keep
