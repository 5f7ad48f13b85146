use Rattle.reg_office.proofs.laws.journal_is_exact.Goals as goal

pub returns-clause-exact : goal.returns-clause-exact
returns-clause-exact c = c.journal_is_exact.ensures.exact _

pub returns-clause-stays : goal.returns-clause-stays
returns-clause-stays c = c.journal_is_exact.ensures.stays _

pub returns-clause-signed : goal.returns-clause-signed
returns-clause-signed c = c.journal_is_exact.ensures.signed _
