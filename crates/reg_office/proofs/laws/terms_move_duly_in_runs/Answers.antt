use Rattle.reg_registers.proofs.Digests.{gives_digests}
use Rattle.reg_office.proofs.laws.terms_move_duly_in_runs.Goals as goal

pub returns : goal.returns
returns c = c.terms_move_duly_in_runs.ensures _ gives_digests
