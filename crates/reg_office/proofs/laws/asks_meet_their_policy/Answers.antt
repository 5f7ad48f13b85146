use Rattle.reg_office.proofs.laws.asks_meet_their_policy.Goals as goal

pub returns : goal.returns
returns c = c.asks_meet_their_policy.ensures _
