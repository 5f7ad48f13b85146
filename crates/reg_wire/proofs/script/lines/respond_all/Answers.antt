use Rattle.std.proofs.Common.{[], ◌++◌, take, arith}
use Rattle.std.proofs.KnownBytes.{Consumes-nil, Consumes-trans}
use Rattle.std.proofs.lemmas.Result.{IfOk-weaker, IfErr-weaker, err_from_is_err_and}
use Rattle.reg_wire.proofs.Sent.{read_none}
use Rattle.reg_wire.proofs.Runs.{progress_start, stops_after_reads, stops_at, stops_last, answers_all}
use Rattle.reg_wire.proofs.script.lines.respond_all.Goals as goal

pub loop-made-init : goal.loop-made-init
loop-made-init g c =
    let start = progress_start g.A.Responder.Serves _ _ in
    ([], Consumes-nil _, rw c.new-buffer.ensures start)

pub returns-then-count-eq0-clause-ok : goal.returns-then-count-eq0-clause-ok
returns-then-count-eq0-clause-ok g c =
    let i = c.loop-made.invariant in
    let got = read_none _ _ _ _ _ _ c.if-count-eq0.true i.1 c.in-Ok.ensures.bytes.0 in
    IfOk-weaker c.finish.result _ _
    (λ _ h. answers_all g.A.Responder.Serves _ _ i.0 _ _ _ _ got
    (c.in-Ok.ensures.bytes.1 c.if-count-eq0.true (omega arith)) (h _ _ _ i.2))
    (c.finish.ensures.ok)

pub returns-then-count-eq0-clause-err : goal.returns-then-count-eq0-clause-err
returns-then-count-eq0-clause-err g c =
    let i = c.loop-made.invariant in
    let got = read_none _ _ _ _ _ _ c.if-count-eq0.true i.1 c.in-Ok.ensures.bytes.0 in
    IfErr-weaker c.finish.result _ _
    (λ e h. stops_last g.A.Responder.Serves _ _ e i.0 _ _ _ _ got
    (c.in-Ok.ensures.bytes.1 c.if-count-eq0.true (omega arith)) (h _ _ _ i.2))
    (c.finish.ensures.err)

pub returns-in_err-sent-clause-err : goal.returns-in_err-sent-clause-err
returns-in_err-sent-clause-err g c =
    let out = err_from_is_err_and c.from_residual.result c.from_residual.ensures.1 in
    let i = c.loop-made.invariant in
    rw (out.1, out.2)
    (stops_at g.A.Responder.Serves _ _ _ (i.0 ++ take c.in-Ok.count c.read.new.buf) _ _ _ _
    (Consumes-trans _ _ _ _ _ i.1 c.in-Ok.ensures.bytes.0)
    (c.in_err-sent.ensures.err _ _ i.0 i.2))

pub loop-made-preserved : goal.loop-made-preserved
loop-made-preserved g c =
    let i = c.loop-made.invariant in (
      i.0 ++ take c.in-Ok.count c.read.new.buf,
      Consumes-trans _ _ _ _ _ i.1 c.in-Ok.ensures.bytes.0,
      c.in_ok-sent.ensures.ok _ _ i.0 i.2,
    )

pub returns-clause-err : goal.returns-clause-err
returns-clause-err g c =
    let i = c.loop-made.invariant in
    stops_after_reads g.A.Responder.Serves _ _ i.0 _ _ _ _ _ _ i.1 i.2
