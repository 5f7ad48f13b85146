use Rattle.reg_jobs.proofs.Adding.{last_local, last_shape}
use Rattle.reg_jobs.proofs.definition.journal.Goals as goal

pub returns-clause-shape : goal.returns-clause-shape
returns-clause-shape c = last_shape c.arg.result _ _ c.arg.ensures c.option.ensures.local c.in_ok-file_command.ensures.shape c.option.ensures.rule

pub returns-clause-local : goal.returns-clause-local
returns-clause-local c = last_local c.arg.result _ _ c.arg.ensures c.option.ensures.local c.in_ok-file_command.ensures.local
