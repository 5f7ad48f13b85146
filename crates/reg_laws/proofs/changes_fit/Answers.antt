use Rattle.reg_core.proofs.Fitting.{steps_fit}
use Rattle.reg_laws.proofs.changes_fit.Goals as goal

pub returns : goal.returns
returns c = steps_fit
