use Rattle.std.proofs.Common.{◌<◌, ◌∙◌, ap, arith, length}
use Rattle.reg_rows.proofs.RegistryRowsSteps.{steps_then}
use Rattle.reg_rows.proofs.Revoked.{later, next_taken}
use Rattle.reg_content.proofs.caps.take_caps.Goals as goal

pub loop-digest-preserved : goal.loop-digest-preserved
loop-digest-preserved g c =
    let digests = c.args.digests.now in
    let i = c.loop-digest.digest-index in
    let inside : i < length (later digests) = omega (arith, c.loop-digest-test.true) in
    record {
      same_reference =
          c.in_ok-take_cap-2.ensures.same_reference ∙ c.loop-digest.invariant.same_reference;
      steps = steps_then c.loop-digest.invariant.steps tt c.in_ok-take_cap-2.ensures.steps
          (λ w any. (
            tt,
            ap (λ caps. record w { caps = caps })
                (next_taken digests i c.digest-item.result w.caps inside c.digest-item.is),
          ));
    }
