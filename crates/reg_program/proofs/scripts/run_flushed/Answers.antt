use Rattle.reg_program.proofs.Flushed.{answers_kept, stops_kept}
use Rattle.reg_program.proofs.Results.{err_as, ok_as}
use Rattle.reg_program.proofs.scripts.run_flushed.Goals as goal

pub returns-clause-ok : goal.returns-clause-ok
returns-clause-ok g c =
    ok_as c.run-done.result (λ all. answers_kept _ _ _ _ _ _ _ _ all c.flush.ensures.bytes)
    c.run-done.ensures.ok

pub returns-clause-err : goal.returns-clause-err
returns-clause-err g c =
    err_as c.run-done.result (λ fault stops. stops_kept _ _ _ _ _ _ _ _ fault stops c.flush.ensures.bytes)
    c.run-done.ensures.err
