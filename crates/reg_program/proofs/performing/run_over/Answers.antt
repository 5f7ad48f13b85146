use Rattle.reg_program.proofs.Results.{ok_as}
use Rattle.reg_program.proofs.performing.run_over.Goals as goal

pub returns : goal.returns
returns g c =
    ok_as c.run_in.result (λ runs. (c.run_in.new.office, rw (← c.new-office.ensures) runs)) c.run_in.ensures.ok
