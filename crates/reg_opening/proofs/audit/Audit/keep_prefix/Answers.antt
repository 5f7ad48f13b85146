use Rattle.std.proofs.Common.{subst, sym}
use Rattle.reg_vacancies.specs.Vacancies.{MayBeOf}
use Rattle.reg_opening.proofs.KeptRows.{keeps_prefix}
use Rattle.reg_opening.proofs.audit.Audit.keep_prefix.Goals as goal

pub returns-clause-ok : goal.returns-clause-ok
returns-clause-ok g c = λ w keeps.
    keeps_prefix c.args.self.now w keeps c.add_key.new.keys c.args.prefix c.in_ok-add_key.ensures.ok
    c.in_ok-free.free
    (c.in_ok-free.ensures.left w (subst (MayBeOf w) (sym c.take.ensures.value) keeps.free))
