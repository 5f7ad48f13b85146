-- The acts of a journal, whose numbers are looked at as their rows are read.
use Rattle.std.specs.Prelude.{◌≡◌, ◌==◌, ◌++◌, ◌+◌, ◌⊎◌, if◌then◌else◌, ℕ, ℤ, List, [], ◌∷◌, length, map, Option, Some, None, Result, Ok, Err, IsTrue, option_map}
use Rattle.std.specs.List.{range_with_len}
use Rattle.std.specs.Ordering.{nat_cmp}
use Rattle.sqlite.specs.Order.{Row, column}
use Rattle.reg_maps.specs.RowMaps.{IsTable, held_in}
use Rattle.reg_core.specs.World.{World}
use Rattle.reg_records.specs.Acts.{act_in}
use Rattle.reg_records.specs.Columns.{int_in}
use Rattle.reg_records.specs.declared.acts.NumberedAct.{NumberedAct}
use Rattle.reg_vacancies.specs.Vacancies.{AreVacanciesOf}
use Rattle.reg_tables.specs.Editing.{AreKeyed}
use Rattle.reg_tables.specs.declared.texts.TheConstants.{SELECT_JOURNAL}
use Rattle.reg_statements.specs.Content.{AreCounted, act_at, latest_first}
use Rattle.reg_statements.specs.Loading.{ReadsInOrder}
use Rattle.reg_statements.specs.Office as office
use Rattle.reg_statements.specs.Tables.{Tables}
use Rattle.reg_opening.specs.Causes.{AreUnrisen}
use Rattle.reg_opening.specs.Numbered.{HasRisen, ShowsNumbered}
use Rattle.reg_opening.specs.declared.acts.ShownAct.{ShownAct}
use Rattle.reg_opening.specs.declared.acts.ActTally.{ActTally}
use Rattle.reg_opening.specs.declared.beside.Beside.{Beside}

-- ---- The table

-- each row reads back, and their numbers are 1, 2, 3 ..
abbrev pub AreWholeActs : List Row → Type 0
AreWholeActs rows = IsTable nat_cmp act_at rows × AreCounted (held_in act_at rows)

-- so it is of a journal, whose rows are by rowids
abbrev pub AreActs : Tables → Type 0
AreActs t = AreWholeActs t.journal × AreKeyed t.journal

-- how many there are, if it is so of them; or it is not
abbrev pub CountsRows : {E : Type 0} → List Row → Result ℕ E → Type 0
CountsRows rows (Ok n) = AreWholeActs rows × (n ≡ length (latest_first (held_in act_at rows)))
CountsRows rows (Err flaw) = ¬ AreWholeActs rows

abbrev pub CountsActs : {E : Type 0} → Tables → Result ℕ E → Type 0
CountsActs t (Ok n) = AreActs t × (n ≡ length (latest_first (held_in act_at t.journal)))
CountsActs t (Err flaw) = ¬ AreActs t

-- ---- Rows as they are read

-- the act of a row with its number, and the rowid behind the columns
abbrev pub shown_act_in : Row → Option ShownAct
shown_act_in row =
    option_map (λ act. record { row = act; rowid = int_in (column row 13) }) (act_in row)

abbrev pub number_of_act : NumberedAct → ℕ
number_of_act a = a.number

-- the numbers are 1, 2, 3 ..
abbrev pub AreFollowing : List NumberedAct → Type 0
AreFollowing rows = map number_of_act rows ≡ range_with_len 1 (length rows)

-- the number of the last of them, or this one where there is none, if the first follows on this one, and
-- each other on the one before it
abbrev pub last_after : ℕ → List NumberedAct → Option ℕ
last_after n [] = Some n
last_after n (a ∷ rows) = if a.number == n + 1 then last_after a.number rows else None

-- one row more: its rowid rises above the last, and its number follows on the last
pub record TakesAct (old : ActTally) (next : ShownAct) (new : ActTally) : Type 0 where
  pub rises : (rowids : List (Option ℤ)) → HasRisen old.rise rowids
      → HasRisen new.rise (rowids ++ next.rowid ∷ [])
  pub last : new.last ≡ next.row.number
  pub follows : IsTrue new.follows → IsTrue old.follows × (next.row.number ≡ old.last + 1)

-- ---- Rows in another order

-- all acts, with their rowids, which do not rise; or those that are to be in the order of their numbers,
-- and are not
abbrev pub AreActsUnordered : List ℕ → List Row → Type 0
AreActsUnordered sql rows =
    (ShowsNumbered office.journal sql × AreUnrisen 13 rows)
    ⊎ ((sql ≡ SELECT_JOURNAL.now)
    × ¬ ReadsInOrder act_in (λ a b. nat_cmp a.number b.number) rows)

-- ---- What stands beside the tables

-- what is free in the office, and how many acts its journal has
abbrev pub StandsBeside : World → Beside → Type 0
StandsBeside w beside =
    AreVacanciesOf w beside.vacancies × (beside.last ≡ length w.journal)
