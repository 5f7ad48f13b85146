use Rattle.std.proofs.Common.{◌<◌, ◌∙◌, ap, arith, length}
use Rattle.reg_rows.proofs.Journaled.{counted_on, later, next_added}
use Rattle.reg_rows.proofs.RegistryRowsSteps.{steps_then}
use Rattle.reg_rows.proofs.journal.add_acts.Goals as goal

pub loop-act-preserved : goal.loop-act-preserved
loop-act-preserved g c =
    let acts = c.args.acts.now in
    let i = c.loop-act.act-index in
    let was = c.loop-act.invariant in
    let inside : i < length (later acts) = omega (arith, c.loop-act-test.true) in
    record {
      same_reference = c.in_ok-number-2.ensures.same_reference ∙ was.same_reference;
      number = omega (arith, c.in_ok-number-2.ensures.number, was.number);
      steps = steps_then was.steps c.in_ok-number-2.number c.in_ok-number-2.ensures.steps
          (λ w is. (
            counted_on acts w.journal i c.loop-act.number c.args.last inside was.number is,
            ap (λ journal. record w { journal = journal })
                (next_added acts w.journal i c.act-item.result inside c.act-item.is),
          ));
    }
