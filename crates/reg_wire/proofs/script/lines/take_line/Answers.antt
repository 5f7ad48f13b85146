use Rattle.std.proofs.Common.{[], ◌++◌, ◌∷◌, append_assoc}
use Rattle.std.proofs.lemmas.Result.{err_from_is_err_and}
use Rattle.reg_wire.proofs.Runs.{progress_line, progress_more, halted_line, halted_memory}
use Rattle.reg_wire.proofs.script.lines.take_line.Goals as goal

pub returns-in_err-extend-clause-err : goal.returns-in_err-extend-clause-err
returns-in_err-extend-clause-err g c =
    let out = err_from_is_err_and c.from_residual.result c.from_residual.ensures.1 in
    rw (out.1, out.2)
    (λ first had bytes p. halted_memory g.A.Responder.Serves first had bytes _ _ c.args.sent _ _
    p)

pub returns-clause-ok : goal.returns-clause-ok
returns-clause-ok g c first had bytes p =
    let last = c.args.last.now in
    let more =
    progress_more g.A.Responder.Serves first had bytes _ _ last c.args.sent _ _ c.requires p
    c.in_ok-extend.ensures in
    rw (← append_assoc bytes last (10 ∷ []))
    (progress_line g.A.Responder.Serves first had (bytes ++ last) _ _ c.args.sent _ _ _ _ _ more
    c.in_ok-sent.ensures.ok c.clear.ensures)

pub returns-in_err-sent-clause-err : goal.returns-in_err-sent-clause-err
returns-in_err-sent-clause-err g c =
    let last = c.args.last.now in
    let out =
    err_from_is_err_and c.from_residual-in_err-sent.result
    c.from_residual-in_err-sent.ensures.1 in
    rw (out.1, out.2)
    (λ first had bytes p. rw (← append_assoc bytes last (10 ∷ []))
    (halted_line g.A.Responder.Serves first had _ (bytes ++ last) _ c.args.sent _ _ _ _
    (progress_more g.A.Responder.Serves first had bytes _ _ last c.args.sent _ _ c.requires p
    c.in_ok-extend.ensures)
    c.in_err-sent.ensures.err))
