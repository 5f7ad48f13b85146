use Rattle.std.proofs.Common.{◌≡◌, [], ◌++◌, ◌+◌, ◌-◌, take, drop, length, length-take, refl, sym, ap, ◌∙◌, arith, append_assoc, append-nil, take_all}
use Rattle.std.proofs.lemmas.Result.{err_from_is_err_and}
use Rattle.reg_wire.specs.Script.Lines.{ended, IsOneLine}
use Rattle.reg_wire.proofs.Runs.{at_feed, before_feed, from_place, halted_memory, halted_more, progress_more}
use Rattle.reg_wire.proofs.script.lines.take_piece.Goals as goal

pub lines-init : goal.lines-init
lines-init g c = ([], refl, λ first had bytes p. rw (append-nil bytes) p)

pub lines-smaller : goal.lines-smaller
lines-smaller g c =
    let rest = c.lines.rest.now in
    let next = c.in-Some.at + 1 in
    omega (arith, c.in-Some.ensures.0.high, length-take (length rest - next) (drop next rest))

pub take_line-requires : goal.take_line-requires
take_line-requires g c = before_feed c.lines.rest.now c.in-Some.at c.in-Some.ensures.0.before

pub lines-preserved : goal.lines-preserved
lines-preserved g c =
    let inv = c.lines.invariant in
    let rest = c.lines.rest.now in
    let at = c.in-Some.at in
    let found = c.in-Some.ensures in
    let line = ended (take at rest) in (
      inv.0 ++ line,
      rw (from_place rest (at + 1))
          (inv.1 ∙ ap (λ t. inv.0 ++ t) (at_feed rest at found.0.high found.1)
          ∙ sym (append_assoc inv.0 line (drop (at + 1) rest))),
      λ first had bytes p. rw (← append_assoc bytes inv.0 line)
          (c.in_ok-total.ensures.ok first had (bytes ++ inv.0) (inv.2 first had bytes p)),
    )

pub returns-in_err-total-clause-err : goal.returns-in_err-total-clause-err
returns-in_err-total-clause-err g c =
    let out = err_from_is_err_and c.from_residual.result c.from_residual.ensures.1 in
    let inv = c.lines.invariant in
    let rest = c.lines.rest.now in
    let at = c.in-Some.at in
    let found = c.in-Some.ensures in
    let line = ended (take at rest) in
    rw (out.1, out.2) (λ first had bytes p.
    let stop =
    c.in_err-total.ensures.err first had (bytes ++ inv.0) (inv.2 first had bytes p) in
    let whole : ((bytes ++ inv.0) ++ line) ++ drop (at + 1) rest ≡ bytes ++ c.args.piece.now =
    append_assoc (bytes ++ inv.0) line (drop (at + 1) rest)
    ∙ append_assoc bytes inv.0 (line ++ drop (at + 1) rest)
    ∙ ap (λ t. bytes ++ t)
    (ap (λ t. inv.0 ++ t) (sym (at_feed rest at found.0.high found.1)) ∙ sym inv.1) in
    rw (← whole)
    (halted_more g.A.Responder.Serves first had _ _ (drop (at + 1) rest) _ _ stop))

pub returns-in_err-extend-clause-err : goal.returns-in_err-extend-clause-err
returns-in_err-extend-clause-err g c =
    let out =
    err_from_is_err_and c.from_residual-in_err-extend.result
    c.from_residual-in_err-extend.ensures.1 in
    let inv = c.lines.invariant in
    let rest = c.lines.rest.now in
    rw (out.1, out.2) (λ first had bytes p.
    rw (inv.1, ← append_assoc bytes inv.0 rest)
    (halted_memory g.A.Responder.Serves first had (bytes ++ inv.0) _ rest _ _ _
    (inv.2 first had bytes p)))

pub returns-clause-ok : goal.returns-clause-ok
returns-clause-ok g c first had bytes p =
    let inv = c.lines.invariant in
    let rest = c.lines.rest.now in
    let one : IsOneLine rest =
    rw (take_all (length rest) rest (omega arith)) at
    (before_feed rest (length rest) c.in_default.ensures) in
    rw (inv.1, ← append_assoc bytes inv.0 rest)
    (progress_more g.A.Responder.Serves first had (bytes ++ inv.0) _ _ rest _ _ _ one
    (inv.2 first had bytes p) c.in_ok-extend.ensures)
