use Rattle.std.proofs.Common.{◌≡◌, ◌-◌, ◌++◌, ◌∷◌, [], ap, sym, subst, ◌∙◌, arith, length, take, get_or}
use Rattle.std.specs.FinMap.{empty}
use Rattle.std.proofs.lemmas.List.{append_assoc, nil_from_length}
use Rattle.reg_vacancies.specs.Pool.{prefix_set}
use Rattle.reg_vacancies.specs.Vacancies.{AreVacancies}
use Rattle.reg_sql.proofs.Reading.{is_parted}
use Rattle.reg_sql.proofs.vacancies.add_prefixes.Goals as goal

pub prefixes-preserved : goal.prefixes-preserved
prefixes-preserved c =
    let was = c.prefixes.invariant in
    let prefixes = c.prefixes.prefixes.now in
    let rest = take (length prefixes - 1) prefixes in
    let last = get_or prefixes (length prefixes - 1) 0 in (
      last ∷ was.0,
      was.1 ∙ ap (λ items. items ++ was.0) (is_parted prefixes (omega (arith, c.in-len1-up.len_at_least)))
          ∙ append_assoc rest (last ∷ []) was.0,
      λ entries are. c.in_ok-add_prefix.ensures.ok entries (prefix_set was.0) empty
          (was.2 entries are),
    )

pub returns : goal.returns
returns c =
    let was = c.prefixes.invariant in
    let none : c.prefixes.prefixes.now ≡ [] =
    nil_from_length c.prefixes.prefixes.now (omega (arith, c.in_default.len_below)) in
    let all = was.1 ∙ ap (λ items. items ++ was.0) none in
    λ entries are.
    subst (λ items. AreVacancies c.prefixes.vacancies entries (prefix_set items) empty)
    (sym all) (was.2 entries are)
