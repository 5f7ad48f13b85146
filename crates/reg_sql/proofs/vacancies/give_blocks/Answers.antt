use Rattle.std.proofs.Common.{◌≡◌, ◌++◌, [], ap, sym, subst, ◌∙◌, arith, rules}
use Rattle.reg_vacancies.specs.Vacancies.{AreVacancies}
use Rattle.reg_sql.specs.Listed.{given}
use Rattle.reg_sql.proofs.Giving.{one_given}
use Rattle.reg_sql.proofs.vacancies.give_blocks.Goals as goal

pub rows-init : goal.rows-init
rows-init c = ([], search rules, λ entries pool lie are. are)

pub rows-smaller : goal.rows-smaller
rows-smaller c = omega (arith, c.in-Some.ensures.len)

pub rows-preserved : goal.rows-preserved
rows-preserved c =
    let was = c.rows.invariant in
    one_given c.args.vacancies.now c.rows.vacancies c.give.new.self c.args.blocks.items
    c.rows.blocks.items c.pop.new.self.items was.0 c.in-Some.row was.1 c.in-Some.ensures.items
    was.2 c.in_ok-give.ensures.ok

pub rows-preserved-in_ok-give : goal.rows-preserved-in_ok-give
rows-preserved-in_ok-give c =
    let was = c.rows.invariant in
    one_given c.args.vacancies.now c.rows.vacancies c.give.new.self c.args.blocks.items
    c.rows.blocks.items c.pop.new.self.items was.0 c.in-Some.row was.1 c.in-Some.ensures.items
    was.2 c.in_ok-give.ensures.ok

pub returns : goal.returns
returns c =
    let was = c.rows.invariant in
    let none : c.rows.blocks.items ≡ [] = search rules in
    let all = was.1 ∙ ap (λ items. items ++ was.0) none in
    λ entries pool lie are.
    subst (λ items. AreVacancies c.rows.vacancies entries pool (given items)) (sym all)
    (was.2 entries pool lie are)
