use Rattle.std.proofs.Common.{◌≡◌, ◌∙◌, ◌<◌, [], ◌∷◌, length, get_or, refl, Some, None}
use Rattle.reg_blocks.specs.Due.{IsDue, block_due}
use Rattle.reg_blocks.proofs.EndsDecideClash.{sized}
use Rattle.reg_blocks.proofs.SweptPrefix.{only_prefix}
use Rattle.reg_blocks.proofs.BlockDue.{looking-next, looking-none, looking-due, made, due-Some, none-Some}
use Rattle.reg_blocks.proofs.TrialFindsTheBlockDue.{IsAnswer-unique, block_due-IsAnswer}
use Rattle.reg_blocks.proofs.due.least_free.Goals as goal

-- the candidate that the sweep gave is the block due of the whole pool, and a block
due_there : (c : goal.After-make)
    → (c.make.result ≡ Some (sized c.args.size c.in-Free.candidate))
    × IsDue c.args.pool.now c.args.given.now c.args.size (sized c.args.size c.in-Free.candidate)
due_there c =
    let here : c.loop-prefix.prefix-index < length c.args.pool.now =
    rw c.prefixes-prefix-items.ensures.value at c.loop-prefix-test.true in
    let due : IsDue (get_or c.args.pool.now c.loop-prefix.prefix-index 0 ∷ []) c.args.given.now
    c.args.size (sized c.args.size c.in-Free.candidate) =
    rw c.prefixes-prefix-items.ensures.value at c.in-Free.ensures in (
      c.make.ensures ∙ made c.args.pool.now c.args.size c.in-Free.candidate
          c.loop-prefix.prefix-index c.prefixes-prefix-items.ensures.clear here
          (only_prefix _ _ due.free.in_pool),
      looking-due c.args.pool.now c.args.given.now c.args.size c.loop-prefix.passed
          c.loop-prefix.prefix-index c.prefixes-prefix-items.ensures.ascending here
          c.loop-prefix.invariant (sized c.args.size c.in-Free.candidate) due,
    )

pub returns-in-Free-clause-due : goal.returns-in-Free-clause-due
returns-in-Free-clause-due c =
    let f = due_there c in
    due-Some c.args.pool.now c.args.given.now c.args.size (sized c.args.size c.in-Free.candidate)
    c.make.result f.0 f.1

pub returns-in-Free-clause-none : goal.returns-in-Free-clause-none
returns-in-Free-clause-none c =
    let f = due_there c in
    none-Some c.args.pool.now c.args.given.now c.args.size (sized c.args.size c.in-Free.candidate)
    c.make.result f.0 f.1

pub loop-prefix-preserved : goal.loop-prefix-preserved
loop-prefix-preserved c =
    let here = rw c.prefixes-prefix-items.ensures.value at c.loop-prefix-test.true in
    let full = rw c.prefixes-prefix-items.ensures.value at c.in-Full.ensures in
    looking-next c.args.pool.now c.args.given.now c.args.size c.loop-prefix.passed
    c.loop-prefix.prefix-index c.in-Full.end c.prefixes-prefix-items.ensures.ascending here
    c.loop-prefix.invariant full

pub returns-clause-none : goal.returns-clause-none
returns-clause-none c =
    let end = rw c.prefixes-prefix-items.ensures.value at c.loop-prefix-test.false in
    let none =
    looking-none c.args.pool.now c.args.given.now c.args.size c.loop-prefix.passed
    c.loop-prefix.prefix-index end c.loop-prefix.invariant in
    ((λ _. none), (λ _. refl))

pub returns-in-Free-clause-trial : goal.returns-in-Free-clause-trial
returns-in-Free-clause-trial c =
    IsAnswer-unique c.args.pool.now c.args.given.now c.args.size c.make.result
    (block_due c.args.pool.now c.args.given.now c.args.size) (record {
      due = returns-in-Free-clause-due c;
      none = returns-in-Free-clause-none c;
    })
    (block_due-IsAnswer c.args.pool.now c.args.given.now c.args.size
    c.prefixes-prefix-items.ensures.ascending)

pub returns-clause-trial : goal.returns-clause-trial
returns-clause-trial c =
    IsAnswer-unique c.args.pool.now c.args.given.now c.args.size None
    (block_due c.args.pool.now c.args.given.now c.args.size) (record {
      due = tt;
      none = returns-clause-none c;
    })
    (block_due-IsAnswer c.args.pool.now c.args.given.now c.args.size
    c.prefixes-prefix-items.ensures.ascending)
