use Rattle.reg_office.proofs.laws.struck.Goals as goal

pub returns-clause-no_trace : goal.returns-clause-no_trace
returns-clause-no_trace c = c.struck.ensures.no_trace _

pub returns-clause-stages : goal.returns-clause-stages
returns-clause-stages c = c.struck.ensures.stages _
