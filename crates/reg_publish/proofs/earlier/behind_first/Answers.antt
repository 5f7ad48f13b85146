use Rattle.std.proofs.Common.{◌<◌, ◌≤◌, Some, None, length, sym, ◌∙◌, arith}
use Rattle.reg_publish.proofs.Marks.{at_place, first_here, first_more, first_nowhere}
use Rattle.reg_publish.proofs.earlier.behind_first.Goals as goal

pub loop-place-preserved : goal.loop-place-preserved
loop-place-preserved c =
    let front = c.args.front.now in
    let text = c.args.text.now in
    let place = c.loop-place.place in
    let inside : place < length text = omega arith in
    first_more front text place inside (at_place front text place None c.in_default.ensures.value)
    ∙ c.loop-place.invariant

pub returns-in-Some : goal.returns-in-Some
returns-in-Some c =
    let front = c.args.front.now in
    let text = c.args.text.now in
    let place = c.loop-place.place in
    let inside : place < length text = omega arith in
    let rest = c.in-Some.rest.now in
    sym
    (first_here front text rest place inside
    (at_place front text place (Some rest) c.in-Some.ensures.value))
    ∙ c.loop-place.invariant

pub returns : goal.returns
returns c =
    let front = c.args.front.now in
    let text = c.args.text.now in
    let place = c.loop-place.place in
    let past : length text ≤ place = omega arith in
    sym (first_nowhere front text place past) ∙ c.loop-place.invariant
