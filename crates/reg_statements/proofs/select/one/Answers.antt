use Rattle.std.proofs.Common.{inr, option_to_list, refl}
use Rattle.reg_statements.proofs.ReadLemmas.{reads_form}
use Rattle.reg_statements.proofs.select.one.Goals as goal

pub returns-in_default-clause-fault : goal.returns-in_default-clause-fault
returns-in_default-clause-fault g c = inr (record {
  told = refl;
  rows = λ works.
      let read = rw c.in_default.is at (c.in_ok-rows.ensures.rows works) in
      (read.0, read.1, λ one. read.2 (reads_form _ read.0 (option_to_list one.0) one.1));
})
