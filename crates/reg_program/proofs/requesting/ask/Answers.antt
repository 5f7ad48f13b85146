use Rattle.std.proofs.Common.{refl}
use Rattle.reg_program.proofs.Questions.{file_answers, served_answers}
use Rattle.reg_program.proofs.requesting.ask.Goals as goal

pub returns-in-Some : goal.returns-in-Some
returns-in-Some g c =
    served_answers (g.O.Offices.Answered c.args.offices.now)
    (g.O.Offices.Carried c.args.offices.now c.args.offices.now) _ c.args.question _ c.in-Some.port
    c.in_ok-request.request c.ask_served.result refl
    (rw (c.in-Some.is, c.source.ensures) at c.in_ok-port.ensures.served)
    (rw (c.in-Some.is, c.source.ensures) at c.in_ok-port.ensures.number)
    c.in_ok-request.ensures.asks (rw c.form-form.ensures at c.ask_served.ensures)

pub returns : goal.returns
returns g c =
    file_answers (g.O.Offices.Answered c.args.offices.now)
    (g.O.Offices.Carried c.args.offices.now c.carry_out.new.offices) _ c.args.question _
    (g.R.Read.remaining c.request_of.new.input) c.in_ok-request.request _ c.carry_out.result
    (rw (c.in-None.is, c.source.ensures) at c.in_ok-port.ensures.served)
    c.in_ok-request.ensures.asks c.request_of.ensures.unread
    (rw c.source-in-None.ensures at c.carry_out.ensures) c.as_deref.ensures.value
    c.in_ok-command.ensures.spelled c.form-form.ensures
