use Rattle.reg_jobs.proofs.Adding.{last_local, last_shape}
use Rattle.reg_jobs.proofs.definition.file_command.Goals as goal

pub returns-clause-shape : goal.returns-clause-shape
returns-clause-shape c = last_shape c.arg.result _ _ c.arg.ensures c.place.ensures.local c.command.ensures.shape c.place.ensures.rule

pub returns-clause-local : goal.returns-clause-local
returns-clause-local c = last_local c.arg.result _ _ c.arg.ensures c.place.ensures.local c.command.ensures.local
