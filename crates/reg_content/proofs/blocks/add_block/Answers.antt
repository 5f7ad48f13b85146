use Rattle.std.proofs.Common.{refl}
use Rattle.reg_rows.proofs.Joining.{steps_in}
use Rattle.reg_content.proofs.blocks.add_block.Goals as goal

pub returns-clause-steps : goal.returns-clause-steps
returns-clause-steps g c =
    steps_in (c.add.ensures.steps c.args.holding.now c.formed.ensures c.holding_values.ensures)
    (λ db was none. ((none, λ tied. tied), refl))
