use Rattle.std.proofs.Common.{refl}
use Rattle.std.proofs.lemmas.Bool.{false≢true}
use Rattle.std.proofs.lemmas.Result.{err_from_is_err_and}
use Rattle.reg_wire.proofs.Runs.{halted_last, whole_line, whole_empty}
use Rattle.reg_wire.proofs.script.lines.finish.Goals as goal

pub returns-then-is_empty-clause-ok : goal.returns-then-is_empty-clause-ok
returns-then-is_empty-clause-ok g c first had bytes p =
    whole_empty g.A.Responder.Serves first had bytes _ c.args.sent _ _
    (c.if-is_empty.ensures.0 refl) p

pub returns-clause-ok : goal.returns-clause-ok
returns-clause-ok g c first had bytes p =
    whole_line g.A.Responder.Serves first had bytes _ c.args.sent _ _ _ _ _
    (λ e. false≢true (c.if-is_empty.ensures.1 e)) p (c.in_ok-answer_buffered.ensures.ok)

pub returns-in_err-answer_buffered-clause-err : goal.returns-in_err-answer_buffered-clause-err
returns-in_err-answer_buffered-clause-err g c =
    let out = err_from_is_err_and c.from_residual.result c.from_residual.ensures.1 in
    rw (out.1, out.2)
    (λ first had bytes p. halted_last g.A.Responder.Serves first had _ bytes _ c.args.sent _ _ _
    _ (λ e. false≢true (c.if-is_empty.ensures.1 e)) p
    (c.in_err-answer_buffered.ensures.err))
