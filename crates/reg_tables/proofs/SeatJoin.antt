-- What the rows of the query on the experts of a request and their advice are.
use Rattle.std.proofs.Common.{◌≡◌, true, ◌&&◌, cond, List, [], ◌∷◌, map, filter}
use Rattle.std.proofs.Common.{IsPermutation, subst, ◌∙◌}
use Rattle.std.specs.List.{flat_map, list_all}
use Rattle.sqlite.specs.declared.types.Value.{Value}
use Rattle.sqlite.specs.Order.{Row, column}
use Rattle.sqlite.specs.State.{State, Shown}
use Rattle.sqlite.specs.Tree.{Trees}
use Rattle.sqlite.specs.Term.{Env, eval_all, holds}
use Rattle.sqlite.specs.Query.{matches, or_nulls}
use Rattle.reg_tables.specs.Joining.{advice_agrees, joined_by}
use Rattle.reg_tables.specs.Seats.{is_seat_of, seat_rows, seats_from, seats_order, seats_project}
use Rattle.reg_tables.specs.Seats.{seats_rows, seats_tests}
use Rattle.reg_tables.specs.Selecting.{BeginsWith}
use Rattle.reg_tables.specs.declared.texts.TheConstants as texts
use Rattle.reg_tables.proofs.FlatMaps.{map-flat_map, mapped_where, of_passing}
use Rattle.reg_tables.proofs.SelectLemmas.{answered_rows}
use Rattle.reg_tables.proofs.Statements.{seats_of_request}
use Rattle.reg_tables.proofs.ValueLemmas.{compared}

module _ (trees : Trees) (account reference : Value) where
  abbrev params : Row
  params = account ∷ reference ∷ []

  abbrev env_of : Row → Row → Env
  env_of seat advice = params ∷ seat ∷ advice ∷ []

  -- the advice that the LEFT JOIN finds
  advised : (seat advice : Row)
      → list_all (holds (env_of seat advice)) (joined_by 2 (1 ∷ 2 ∷ 3 ∷ []))
      ≡ advice_agrees seat advice
  advised seat advice = λ i.
      compared (column advice 1) (column seat 1) i
      && (compared (column advice 2) (column seat 2) i
      && (compared (column advice 3) (column seat 3) i && true))

  passed : (seat advice : Row)
      → list_all (holds (env_of seat advice)) seats_tests ≡ is_seat_of account reference seat
  passed seat advice = λ i.
      compared (column seat 1) account i && (compared (column seat 2) reference i && true)

  -- the ways to fill the slots after a row of the queue
  abbrev envs_at : Row → List Env
  envs_at seat =
      flat_map (λ advice. cond (list_all (holds (env_of seat advice)) seats_tests)
      (env_of seat advice ∷ []) [])
      (or_nulls (filter (λ advice. list_all (holds (env_of seat advice))
      (joined_by 2 (1 ∷ 2 ∷ 3 ∷ []))) (trees 14)))

  at_seat : (seat : Row) → map (eval_all seats_project) (envs_at seat)
      ≡ cond (is_seat_of account reference seat) (seat_rows (trees 14) seat) []
  at_seat seat =
      (λ i. map (eval_all seats_project) (flat_map (λ advice.
      cond (passed seat advice i) (env_of seat advice ∷ []) [])
      (or_nulls (filter (λ advice. advised seat advice i) (trees 14)))))
      ∙ mapped_where (is_seat_of account reference seat) (eval_all seats_project) (env_of seat)
      (or_nulls (filter (advice_agrees seat) (trees 14)))

  -- what is shown of the matches
  joined : map (eval_all seats_project) (matches trees seats_tests seats_from (params ∷ []))
      ≡ seats_rows trees account reference
  joined =
      map-flat_map (eval_all seats_project) envs_at (trees 11)
      ∙ (λ i. flat_map (λ seat. at_seat seat i) (trees 11))
      ∙ of_passing (is_seat_of account reference) (seat_rows (trees 14)) (trees 11)

-- the rows of the query are what is shown of the request's experts, in some order
pub seats_selected : (account reference : Value) (old new : State) (rows : List Row)
    → BeginsWith 8 old.now.schema → Shown texts.SELECT_SEATS.now (account ∷ reference ∷ []) old new rows
    → IsPermutation (seats_rows old.now.trees account reference) rows
seats_selected account reference old new rows begins h =
    subst (λ xs. IsPermutation xs rows) (joined old.now.trees account reference)
    (answered_rows texts.SELECT_SEATS.now seats_from seats_tests seats_project seats_order
    (account ∷ reference ∷ []) old new rows seats_of_request begins h)
