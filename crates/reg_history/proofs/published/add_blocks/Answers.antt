use Rattle.reg_history.proofs.Taken.{listed}
use Rattle.reg_history.proofs.published.add_blocks.Goals as goal

pub returns : goal.returns
returns c =
    listed (λ v. v.items) c.args.facts.now c.take_blocks.new.taker _ c.in_ok-take_blocks.ensures
