use Rattle.std.proofs.Common.{◌≡◌, ◌++◌, ◌∷◌, [], ap, sym, subst, ◌∙◌, arith, rules}
use Rattle.std.specs.FinMap.{empty}
use Rattle.std.proofs.lemmas.List.{append_assoc}
use Rattle.reg_core.specs.Entry.{registration_in}
use Rattle.reg_vacancies.specs.Vacancies.{AreVacancies}
use Rattle.reg_sql.specs.Listed.{registrations}
use Rattle.reg_sql.proofs.vacancies.take_values.Goals as goal

pub entries-init : goal.entries-init
entries-init c = ([], search rules, λ are. are)

pub entries-smaller : goal.entries-smaller
entries-smaller c = omega (arith, c.in-Some.ensures.len)

pub entries-preserved : goal.entries-preserved
entries-preserved c =
    let was = c.entries.invariant in
    let entry = c.in-Some.entry in (
      entry ∷ was.0,
      was.1 ∙ ap (λ items. items ++ was.0) c.in-Some.ensures.items
          ∙ append_assoc c.pop.new.self.items (entry ∷ []) was.0,
      λ are. c.in_ok-take_value.ensures.ok (registrations was.0) empty empty (was.2 are)
          (registration_in entry),
    )

pub returns : goal.returns
returns c =
    let was = c.entries.invariant in
    let none : c.entries.entries.items ≡ [] = search rules in
    let all = was.1 ∙ ap (λ items. items ++ was.0) none in
    λ are. subst (λ items. AreVacancies c.entries.vacancies (registrations items) empty empty)
    (sym all) (was.2 are)
