use Rattle.std.proofs.Common.{refl}
use Rattle.reg_rows.proofs.Found.{absent}
use Rattle.reg_rows.proofs.Joining.{steps_in}
use Rattle.reg_rows.proofs.pool.add_prefix.Goals as goal

pub returns-clause-steps : goal.returns-clause-steps
returns-clause-steps g c =
    let form = rw c.new-prefix.ensures at c.formed.ensures in
    let written = rw c.new-prefix.ensures at c.values.ensures in
    steps_in (c.add.ensures.steps c.args.prefix form written)
    (λ db was none. ((absent _ none, λ tied. tied), refl))
