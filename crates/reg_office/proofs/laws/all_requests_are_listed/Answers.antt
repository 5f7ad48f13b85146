use Rattle.reg_office.proofs.laws.all_requests_are_listed.Goals as goal

pub returns : goal.returns
returns c = c.all_requests_are_listed.ensures _
