use Rattle.std.proofs.Common.{◌++◌, true≢false, sym, ap, ◌∙◌}
use Rattle.reg_source.proofs.Portioned.{gives_next, same_front-more, same_front-other}
use Rattle.reg_source.proofs.comparing.gives_just.Goals as goal

pub loop-portion-preserved : goal.loop-portion-preserved
loop-portion-preserved g c =
    let rest = g.P.Portions.rest in
    let left = rest c.next_portion.new.printer in
    let next = gives_next c.in_ok-next_portion.field-0 c.next_portion.new.portion.items
    (rest c.loop-portion.printer) left c.if-branch.true c.in_ok-next_portion.ensures in
    same_front-more c.args.bytes.now c.loop-portion.rest.now c.in-Some.more.now
    (rest c.args.printer.now) (rest c.loop-portion.printer) left c.as_slice.result.now
    c.loop-portion.invariant c.in-Some.ensures.leaves
    (ap (λ p. p ++ left) c.as_slice.ensures.value ∙ sym next)

pub returns-in_default : goal.returns-in_default
returns-in_default g c =
    let rest = g.P.Portions.rest in
    let left = rest c.next_portion.new.printer in
    let next = gives_next c.in_ok-next_portion.field-0 c.next_portion.new.portion.items
    (rest c.loop-portion.printer) left c.if-branch.true c.in_ok-next_portion.ensures in (
      λ yes. absurd (true≢false (sym yes)),
      λ same. absurd
          (same_front-other c.args.bytes.now c.loop-portion.rest.now (rest c.args.printer.now)
          (rest c.loop-portion.printer) left c.as_slice.result.now c.loop-portion.invariant
          c.in_default.ensures.leaves (ap (λ p. p ++ left) c.as_slice.ensures.value ∙ sym next) same),
    )
