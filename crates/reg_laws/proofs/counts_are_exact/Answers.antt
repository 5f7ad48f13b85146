use Rattle.reg_laws.proofs.Counts.{counts_exact}
use Rattle.reg_laws.proofs.counts_are_exact.Goals as goal

pub returns : goal.returns
returns c = counts_exact
