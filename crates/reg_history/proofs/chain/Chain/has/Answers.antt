use Rattle.std.proofs.Common.{◌<◌, ◌≤◌, ◌-◌, length, Some, ap, ◌∙◌, arith}
use Rattle.reg_history.proofs.Histories.{digest-at}
use Rattle.reg_history.proofs.UnlikeHistories.{digest-is}
use Rattle.reg_history.proofs.chain.Chain.has.Goals as goal

pub returns : goal.returns
returns c =
    let digests = c.args.self.now.digests.items in
    let some : 1 ≤ c.args.number = omega (arith, c.if-number-eq0.false) in
    let within : c.args.number ≤ length digests =
    omega (arith, c.if-count-number.false, c.count.ensures) in
    let inside : c.args.number - 1 < length digests = omega arith in (
      λ yes. (
        some,
        within,
        digest-at digests (c.args.number - 1) c.index.result.now inside c.index.ensures
            ∙ ap Some (c.is_same.ensures.0 yes),
      ),
      λ has. c.is_same.ensures.1
          (digest-is digests (c.args.number - 1) c.index.result.now c.args.digest.now inside
          c.index.ensures has.2),
    )
