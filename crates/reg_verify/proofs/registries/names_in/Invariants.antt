use Rattle.std.specs.Prelude.{All}
use Rattle.reg_verify.proofs.Nameless.{AreNames, HasName}
use Rattle.reg_verify.proofs.registries.names_in.Given as goal

abbrev pub invariant-loop-subject : goal.invariant-loop-subject
invariant-loop-subject l = AreNames l.names.items × All (λ b. HasName b.now) l.yielded
