use Rattle.reg_registers.proofs.carrying.conclude.Goals as goal

pub returns-clause-change : goal.returns-clause-change
returns-clause-change g c =
    let made = c.in_ok-carry_out.ensures.change in
    rw (← c.stamp.ensures) (record {
      made = made.made;
      kept = λ h. tt;
      premise = made.premise;
      fault = tt;
    })
