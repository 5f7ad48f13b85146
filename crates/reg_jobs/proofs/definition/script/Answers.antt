use Rattle.reg_jobs.proofs.Adding.{added_local, added_shape, last_local, last_shape}
use Rattle.reg_jobs.proofs.definition.script.Goals as goal

pub returns-clause-shape : goal.returns-clause-shape
returns-clause-shape c =
    let one = added_shape c.in_ok-arg.ensures c.clerk.ensures.local c.command.ensures.shape c.clerk.ensures.rule in
    last_shape c.arg-2.result _ _ c.arg-2.ensures c.option.ensures.local one c.option.ensures.rule

pub returns-clause-local : goal.returns-clause-local
returns-clause-local c =
    let one = added_local c.in_ok-arg.ensures c.clerk.ensures.local c.command.ensures.local in
    last_local c.arg-2.result _ _ c.arg-2.ensures c.option.ensures.local one
