use Rattle.std.proofs.Common.{refl}
use Rattle.reg_records.specs.declared.advice.ExpertAdvice.{ExpertAdvice}
use Rattle.reg_rows.proofs.Joining.{steps_in}
use Rattle.reg_rows.proofs.advice.put_advice.Goals as goal

pub returns-clause-steps : goal.returns-clause-steps
returns-clause-steps g c =
    let row : ExpertAdvice = record {
      seat = record {
        account = c.args.account.now;
        reference = c.args.reference.now;
        expert = c.args.expert.now;
      };
      advice = c.args.advice.now;
    } in
    steps_in (c.put.ensures.steps row c.formed.ensures c.values.ensures)
    (λ db was any. ((λ tied. tied), refl))
