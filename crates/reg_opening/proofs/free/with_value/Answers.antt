use Rattle.std.proofs.Common.{subst}
use Rattle.reg_core.specs.Entry.{registration_in}
use Rattle.reg_vacancies.specs.Vacancies.{MayBeOf}
use Rattle.reg_opening.proofs.free.with_value.Goals as goal

pub returns-clause-left : goal.returns-clause-left
returns-clause-left g c = λ w are.
    c.in_ok-take_value.ensures.ok w.entries w.pool w.blocks (subst (MayBeOf w) c.in-Some.is are)
    (registration_in c.args.entry.now)
