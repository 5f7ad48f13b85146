use Rattle.reg_history.proofs.Taken.{listed}
use Rattle.reg_history.proofs.published.add_page.Goals as goal

pub returns : goal.returns
returns c =
    listed (λ v. v.items) c.args.facts.now c.take_page.new.taker _ c.in_ok-take_page.ensures
