-- Blocks that are given one by one, from the last to the first.
use Rattle.std.proofs.Common.{◌≡◌, List, [], ◌∷◌, ◌++◌, sym, ap, subst, ◌∙◌}
use Rattle.std.specs.Prelude.{All, Contains}
use Rattle.std.specs.FinMap.{empty, insert, keys}
use Rattle.std.proofs.lemmas.List.{append_assoc}
use Rattle.std.proofs.lemmas.List.Elements.{All-contains, Contains-append_left, Contains-push}
use Rattle.reg_blocks.specs.Block.{leading_24}
use Rattle.reg_core.specs.declared.holding.Holder.{Holder}
use Rattle.reg_core.specs.declared.holding.Listed.{Listed}
use Rattle.reg_vacancies.specs.Vacancies.{AreVacancies, OfAll, Pool}
use Rattle.reg_vacancies.specs.Values.{Entries}
use Rattle.reg_vacancies.specs.declared.vacancies.Vacancies.{Vacancies}
use Rattle.reg_sql.specs.Listed.{given, nobody}

-- each lies in the pool
abbrev pub LieIn : Pool → List Listed → Type 0
LieIn pool = All (λ (row : Listed). Contains (keys pool) (leading_24 row.block))

-- where all lie in the pool, the places of those that are gone are taken
abbrev pub AreGiven : Vacancies → Vacancies → List Listed → List Listed → Type 0
AreGiven old new all gone =
    (entries : Entries) (pool : Pool) → LieIn pool all → AreVacancies old entries pool empty
    → AreVacancies new entries pool (given gone)

-- one block more is given
pub one_given : (first old new : Vacancies) (all items rest gone : List Listed) (row : Listed)
    → all ≡ items ++ gone → items ≡ rest ++ row ∷ [] → AreGiven first old all gone
    → OfAll old (λ entries pool blocks. Contains (keys pool) (leading_24 row.block)
    → (holder : Holder) → AreVacancies new entries pool (insert blocks row.block holder))
    → (more : List Listed) × (all ≡ rest ++ more) × AreGiven first new all more
one_given first old new all items rest gone row whole last was gives = (
  row ∷ gone,
  whole ∙ ap (λ items. items ++ gone) last ∙ append_assoc rest (row ∷ []) gone,
  λ entries pool lie are.
      gives entries pool (given gone) (was entries pool lie are)
      (All-contains (λ (row : Listed). Contains (keys pool) (leading_24 row.block)) all row lie
      there)
      nobody,
)
  where
    there : Contains all row
    there =
        subst (λ (rows : List Listed). Contains rows row) (sym whole)
        (Contains-append_left items gone row
        (subst (λ (rows : List Listed). Contains rows row) (sym last) (Contains-push rest row)))
