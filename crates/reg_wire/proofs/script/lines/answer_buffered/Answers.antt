use Rattle.std.proofs.Common.{refl, sym, ap, ◌∙◌}
use Rattle.std.proofs.lemmas.Result.{IfOk-weaker, IfErr-weaker}
use Rattle.std.specs.Prelude.{option_map}
use Rattle.reg_wire.specs.Script.Lines.{refusal, storage}
use Rattle.reg_wire.specs.Script.Line.{call_of}
use Rattle.reg_wire.proofs.Runs.{refused, served}
use Rattle.reg_wire.proofs.script.lines.answer_buffered.Goals as goal

pub returns-in_default-clause-ok : goal.returns-in_default-clause-ok
returns-in_default-clause-ok g c =
    IfOk-weaker c.send_answer.result _ _
    (λ n h line buffered. (
      refusal,
      refused g.A.Responder.Serves _ line
          (sym (c.line.ensures line buffered) ∙ ap (option_map call_of) c.in_default.is),
      (h.1, h.0),
    )) c.send_answer.ensures.ok

pub returns-in_default-clause-err : goal.returns-in_default-clause-err
returns-in_default-clause-err g c =
    IfErr-weaker c.send_answer.result _ _
    (λ e h line buffered. (
      refusal,
      refused g.A.Responder.Serves _ line
          (sym (c.line.ensures line buffered) ∙ ap (option_map call_of) c.in_default.is),
      h refusal refl,
    )) c.send_answer.ensures.err

pub returns-in-Ok-clause-ok : goal.returns-in-Ok-clause-ok
returns-in-Ok-clause-ok g c =
    let told = c.in-Ok.ensures.ok in
    let is = c.as_slice.ensures.value ∙ told.1 in
    IfOk-weaker c.send_answer-in-Ok.result _ _
    (λ n h line buffered. (
      told.0,
      served g.A.Responder.Serves _ _ line told.0 _ (c.in-Some.ensures line buffered) told.2,
      (rw is at h.1, rw is at h.0),
    )) c.send_answer-in-Ok.ensures.ok

pub returns-in-Ok-clause-err : goal.returns-in-Ok-clause-err
returns-in-Ok-clause-err g c =
    let told = c.in-Ok.ensures.ok in
    IfErr-weaker c.send_answer-in-Ok.result _ _
    (λ e h line buffered. (
      told.0,
      served g.A.Responder.Serves _ _ line told.0 _ (c.in-Some.ensures line buffered) told.2,
      h told.0 (c.as_slice.ensures.value ∙ told.1),
    )) c.send_answer-in-Ok.ensures.err

pub returns-in-Err-Storage-clause-ok : goal.returns-in-Err-Storage-clause-ok
returns-in-Err-Storage-clause-ok g c =
    IfOk-weaker c.send_answer-in-Err-Storage.result _ _
    (λ n h line buffered. (
      storage,
      served g.A.Responder.Serves _ _ line storage _
          (c.in-Some.ensures line buffered)
          (rw c.in-Err-Storage.field-0-is at (c.in-Err-Storage.ensures.err)),
      (h.1, h.0),
    )) c.send_answer-in-Err-Storage.ensures.ok

pub returns-in-Err-Storage-clause-err : goal.returns-in-Err-Storage-clause-err
returns-in-Err-Storage-clause-err g c =
    IfErr-weaker c.send_answer-in-Err-Storage.result _ _
    (λ e h line buffered. (
      storage,
      served g.A.Responder.Serves _ _ line storage _
          (c.in-Some.ensures line buffered)
          (rw c.in-Err-Storage.field-0-is at (c.in-Err-Storage.ensures.err)),
      h storage refl,
    )) c.send_answer-in-Err-Storage.ensures.err
