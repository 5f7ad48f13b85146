use Rattle.reg_program.proofs.Acts.{printed, stopped, stopped_of_acts, unnoted, write_of_acts}
use Rattle.reg_program.proofs.Results.{err_as}
use Rattle.reg_program.proofs.journal.print_acts.Goals as goal

pub returns-clause-told : goal.returns-clause-told
returns-clause-told g c =
    let text = c.in_ok-whole.ensures.text in
    printed _ _ _ _ c.print.result text.0 _ _ text.1 text.2 (cc)
    (rw c.as_slice.ensures.value at c.print.ensures.ok) c.print.ensures.err

pub returns-clause-why : goal.returns-clause-why
returns-clause-why g c = err_as c.print.result write_of_acts c.print.ensures.err

pub returns-then-not-is_noted_in-clause-told : goal.returns-then-not-is_noted_in-clause-told
returns-then-not-is_noted_in-clause-told g c =
    let text = c.in_ok-whole.ensures.text in
    unnoted _ _ _ text.0 _ _ text.1 text.2 (cc)

pub returns-in_err-whole-clause-told : goal.returns-in_err-whole-clause-told
returns-in_err-whole-clause-told g c =
    stopped _ _ _ c.in_err-whole.field-0.0 c.in_err-whole.ensures.err c.from_residual.result
    c.from_residual.ensures.1

pub returns-in_err-whole-clause-why : goal.returns-in_err-whole-clause-why
returns-in_err-whole-clause-why g c =
    stopped_of_acts c.in_err-whole.field-0.0 c.in_err-whole.ensures.err c.from_residual.result
    c.from_residual.ensures.1
