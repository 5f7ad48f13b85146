use Rattle.reg_program.proofs.publishing.port_of.Goals as goal

pub returns-in_default-clause-served : goal.returns-in_default-clause-served
returns-in_default-clause-served c =
    λ served. c.in_default.ensures.cases served.0 served.1
