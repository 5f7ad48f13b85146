use Rattle.reg_jobs.proofs.Adding.{added_local, added_shape, last_local, last_shape}
use Rattle.reg_jobs.proofs.definition.serve.Goals as goal

pub returns-clause-shape : goal.returns-clause-shape
returns-clause-shape c =
    let one = added_shape c.in_ok-arg.ensures c.port.ensures.local c.in_ok-file_command.ensures.shape c.port.ensures.rule in
    let two = added_shape c.in_ok-arg-2.ensures c.connections.ensures.local one c.connections.ensures.rule in
    let three = added_shape c.in_ok-arg-3.ensures c.flag.ensures.local two c.flag.ensures.rule in
    last_shape c.arg-4.result _ _ c.arg-4.ensures c.option.ensures.local three c.option.ensures.rule

pub returns-clause-local : goal.returns-clause-local
returns-clause-local c =
    let one = added_local c.in_ok-arg.ensures c.port.ensures.local c.in_ok-file_command.ensures.local in
    let two = added_local c.in_ok-arg-2.ensures c.connections.ensures.local one in
    let three = added_local c.in_ok-arg-3.ensures c.flag.ensures.local two in
    last_local c.arg-4.result _ _ c.arg-4.ensures c.option.ensures.local three
