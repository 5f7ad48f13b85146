use Rattle.reg_client.proofs.DueEntries.{all-due}
use Rattle.reg_client.proofs.laws.allocations_are_due.Goals as goal

pub returns : goal.returns
returns c = all-due
