use Rattle.reg_wire.proofs.Calls.{calls_of_model}
use Rattle.reg_wire.proofs.laws.calls_run_as_the_model.Goals as goal

pub returns : goal.returns
returns c = calls_of_model
