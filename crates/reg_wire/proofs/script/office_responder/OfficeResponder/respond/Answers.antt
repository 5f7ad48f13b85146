use Rattle.std.proofs.Common.{Ok, Err, refl}
use Rattle.reg_wire.specs.Script.Answers.{answer_line}
use Rattle.reg_wire.proofs.AnswerLines.{answered_is_another}
use Rattle.reg_wire.proofs.script.office_responder.OfficeResponder.respond.Goals as goal

pub returns-in-Ok-into_line-clause-ok : goal.returns-in-Ok-into_line-clause-ok
returns-in-Ok-into_line-clause-ok g c = (
  answer_line c.in-Ok.answer,
  c.in-Ok-into_line.ensures,
  record { result = Ok c.in-Ok.answer; told = refl; gives = c.in-Ok.ensures },
)

pub returns-in-Err-into_line-clause-err : goal.returns-in-Err-into_line-clause-err
returns-in-Err-into_line-clause-err g c = (
  answer_line c.in-Ok.answer,
  answered_is_another c.in-Ok.answer c.in-Ok.ensures.is_answered,
  record { result = Ok c.in-Ok.answer; told = refl; gives = c.in-Ok.ensures },
)

-- the store or memory failed, so nothing has changed, and the answer is 503
pub returns-in-Err-clause-err : goal.returns-in-Err-clause-err
returns-in-Err-clause-err g c =
    record { result = Err c.in-Err.field-0; told = refl; gives = c.in-Err.ensures }
