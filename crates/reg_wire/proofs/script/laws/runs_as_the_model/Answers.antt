use Rattle.reg_wire.proofs.ScriptRun.{model_run}
use Rattle.reg_wire.proofs.script.laws.runs_as_the_model.Goals as goal

pub returns : goal.returns
returns c = model_run c.calls_run_as_the_model.ensures
