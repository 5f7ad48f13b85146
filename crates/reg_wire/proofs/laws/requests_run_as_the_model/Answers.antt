use Rattle.reg_wire.proofs.Exchanges.{requests_of_model}
use Rattle.reg_wire.proofs.laws.requests_run_as_the_model.Goals as goal

pub returns : goal.returns
returns c = requests_of_model c.calls_run_as_the_model.ensures
