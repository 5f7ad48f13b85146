use Rattle.std.proofs.Common.{subst, sym}
use Rattle.reg_vacancies.specs.Vacancies.{MayBeOf}
use Rattle.reg_opening.proofs.KeptRows.{keeps_block}
use Rattle.reg_opening.proofs.audit.Audit.keep_block.Goals as goal

pub returns-clause-ok : goal.returns-clause-ok
returns-clause-ok g c = λ w keeps there.
    keeps_block c.args.self.now w keeps c.set_row.new.map c.args.holding.now
    c.in_ok-set_row.ensures.ok c.in_ok-free.free
    (c.in_ok-free.ensures.left w there (subst (MayBeOf w) (sym c.take.ensures.value) keeps.free))
