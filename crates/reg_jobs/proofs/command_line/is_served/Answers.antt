use Rattle.reg_jobs.proofs.command_line.is_served.Goals as goal

pub returns-in-None : goal.returns-in-None
returns-in-None c = λ served. c.in-None.ensures.cases served.0 served.1
