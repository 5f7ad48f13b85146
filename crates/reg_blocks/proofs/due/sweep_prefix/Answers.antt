use Rattle.std.proofs.Common.{◌≡◌, ◌∙◌, subst, ◌<◌, ◌≤◌, ◌+◌, ◌*◌, ◌/◌, max, arith}
use Rattle.std.proofs.lemmas.List.{get_or_default}
use Rattle.reg_blocks.specs.Size.{address_count}
use Rattle.reg_blocks.specs.Block.{SizedPrefix, first_address, last_address}
use Rattle.reg_blocks.proofs.SweptPrefix.{sweeping-free, sweeping-next, sweeping-full}
use Rattle.reg_blocks.proofs.due.sweep_prefix.Goals.{After-max-candidate}
use Rattle.reg_blocks.proofs.due.sweep_prefix.Goals as goal

module _ (c : After-max-candidate) where
  -- the given block does not begin after the candidate
  begins : first_address c.index-given-i.result
      < (c.loop-i.candidate + 1) * address_count c.args.size
  begins = rw (c.first.ensures.value, c.address_count-count.ensures) at c.if-candidate-count.false

  -- the candidate makes way for the first one past it
  moves : c.max-candidate.result
      ≡ max c.loop-i.candidate
      (last_address c.index-given-i.result / address_count c.args.size + 1)
  moves = rw (c.last.ensures.value, c.address_count-count.ensures) at c.max-candidate.ensures

pub returns-then-candidate-end : goal.returns-then-candidate-end
returns-then-candidate-end c =
    let moved = (goal.at.returns-then-candidate-end c).After-max-candidate in
    sweeping-full c.args.prefix c.args.given.now c.args.size c.loop-i.i c.loop-i.candidate
    c.loop-i.invariant c.index-given-i.result c.max-candidate.result c.index-given-i.is
    c.loop-i-test.true (begins moved) (moves moved)
    (rw (c.from.ensures, c.blocks_in_prefix.ensures, c.blocks_in_prefix-2.ensures) at
    c.if-candidate-end.true)

pub loop-i-preserved : goal.loop-i-preserved
loop-i-preserved c =
    let moved = (goal.at.loop-i-preserved c).After-max-candidate in
    sweeping-next c.args.prefix c.args.given.now c.args.size c.loop-i.i c.loop-i.candidate
    c.loop-i.invariant c.index-given-i.result c.max-candidate.result c.index-given-i.is
    c.loop-i-test.true (begins moved) (moves moved)
    (rw (c.from.ensures, c.blocks_in_prefix.ensures, c.blocks_in_prefix-2.ensures) at
    c.if-candidate-end.false)

pub returns-after-loop-i : goal.returns-after-loop-i
returns-after-loop-i c =
    sweeping-free c.args.prefix c.args.given.now c.args.size c.loop-i.i c.loop-i.candidate
    c.loop-i.invariant c.requires.ascending (λ d h. absurd (omega arith))

pub returns-then-candidate-count : goal.returns-then-candidate-count
returns-then-candidate-count c =
    let after =
    rw (c.first.ensures.value, c.address_count-count.ensures) at c.if-candidate-count.true in
    sweeping-free c.args.prefix c.args.given.now c.args.size c.loop-i.i c.loop-i.candidate
    c.loop-i.invariant c.requires.ascending
    (λ d h. let same =
    c.index-given-i.is ∙ get_or_default c.args.given.now c.loop-i.i c.index-given-i.result d
    h in subst
    (λ (b : SizedPrefix). (c.loop-i.candidate + 1) * address_count c.args.size ≤
    first_address b) same after)
