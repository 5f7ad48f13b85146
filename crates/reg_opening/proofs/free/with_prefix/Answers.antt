use Rattle.std.proofs.Common.{subst}
use Rattle.reg_vacancies.specs.Vacancies.{MayBeOf}
use Rattle.reg_opening.proofs.free.with_prefix.Goals as goal

pub returns-clause-left : goal.returns-clause-left
returns-clause-left g c = λ w are.
    c.in_ok-add_prefix.ensures.ok w.entries w.pool w.blocks (subst (MayBeOf w) c.in-Some.is are)
