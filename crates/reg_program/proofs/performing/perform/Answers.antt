use Rattle.std.proofs.Common.{inl, refl}
use Rattle.reg_program.proofs.performing.perform.Goals as goal

pub returns-in-Ok-clause-done : goal.returns-in-Ok-clause-done
returns-in-Ok-clause-done g c = inl (refl, c.in-Ok.ensures)
