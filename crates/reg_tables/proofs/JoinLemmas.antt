-- What the rows of the query on the queue, the requests and the advice are.
use Rattle.std.proofs.Common.{◌≡◌, Bool, true, false, ◌&&◌, cond, List, [], ◌∷◌, map, filter}
use Rattle.std.proofs.Common.{IsPermutation, refl, ap, subst, ◌∙◌}
use Rattle.std.specs.List.{flat_map, list_all}
use Rattle.sqlite.specs.declared.types.Value.{Value}
use Rattle.sqlite.specs.Order.{Row, column}
use Rattle.sqlite.specs.State.{State, Shown}
use Rattle.sqlite.specs.Tree.{Trees}
use Rattle.sqlite.specs.Term.{Env, eval_all, holds}
use Rattle.sqlite.specs.Query.{matches, or_nulls}
use Rattle.reg_tables.specs.Joining.{advice_agrees, is_of, joined_by, queued_at, queued_from, queued_order, queued_project, queued_rows, queued_tests, request_agrees, with_advice}
use Rattle.reg_tables.specs.Selecting.{BeginsWith}
use Rattle.reg_tables.specs.declared.texts.TheConstants as texts
use Rattle.reg_tables.specs.Values.{same_value}
use Rattle.reg_tables.proofs.FlatMaps.{apart, map-flat_map, mapped_where, of_passing}
use Rattle.reg_tables.proofs.SelectLemmas.{answered_rows}
use Rattle.reg_tables.proofs.Statements.{queued_of_expert}
use Rattle.reg_tables.proofs.ValueLemmas.{compared}

-- ---- The tests

module _ (trees : Trees) (params : Row) where
  abbrev env_of : Row → Row → Row → Env
  env_of seat request advice = params ∷ seat ∷ request ∷ advice ∷ []

  abbrev expert : Value
  expert = column params 0

  -- the advice that the LEFT JOIN finds
  advised : (seat request advice : Row)
      → list_all (holds (params ∷ seat ∷ request ∷ advice ∷ [])) (joined_by 3 (1 ∷ 2 ∷ 3 ∷ []))
      ≡ advice_agrees seat advice
  advised seat request advice = λ i.
      compared (column advice 1) (column seat 1) i
      && (compared (column advice 2) (column seat 2) i
      && (compared (column advice 3) (column seat 3) i && true))

  grouped : (a b c : Bool) → (a && (b && (c && true))) ≡ ((a && (b && true)) && c)
  grouped true true true = refl
  grouped true true false = refl
  grouped true false c = refl
  grouped false b c = refl

  passed : (seat request advice : Row)
      → list_all (holds (env_of seat request advice)) queued_tests
      ≡ (request_agrees seat request && is_of expert seat)
  passed seat request advice =
      (λ i. compared (column request 1) (column seat 1) i
      && (compared (column request 2) (column seat 2) i
      && (compared (column seat 3) expert i && true)))
      ∙ grouped (same_value (column request 1) (column seat 1))
      (same_value (column request 2) (column seat 2)) (same_value (column seat 3) expert)

  -- ---- The rows

  abbrev advice_of : Row → List Row
  advice_of seat = or_nulls (filter (advice_agrees seat) (trees 14))

  -- the ways to fill the slots after a row of the queue and one of the requests
  abbrev envs_at : Row → Row → List Env
  envs_at seat request =
      flat_map (λ advice. cond (list_all (holds (env_of seat request advice)) queued_tests)
      (env_of seat request advice ∷ []) [])
      (or_nulls (filter (λ advice. list_all (holds (env_of seat request advice))
      (joined_by 3 (1 ∷ 2 ∷ 3 ∷ []))) (trees 14)))

  abbrev shown_at : Row → Row → List Row
  shown_at seat request = map (eval_all queued_project) (envs_at seat request)

  at_request : (seat request : Row) → shown_at seat request
      ≡ cond (request_agrees seat request && is_of expert seat)
      (with_advice (filter (advice_agrees seat) (trees 14)) request) []
  at_request seat request =
      let test = request_agrees seat request && is_of expert seat in
      (λ i. map (eval_all queued_project) (flat_map (λ advice.
      cond (passed seat request advice i) (env_of seat request advice ∷ []) [])
      (or_nulls (filter (λ advice. advised seat request advice i) (trees 14)))))
      ∙ mapped_where test (eval_all queued_project) (env_of seat request) (advice_of seat)

  at_seat : (seat : Row) → map (eval_all queued_project) (flat_map (envs_at seat) (trees 9))
      ≡ cond (is_of expert seat) (queued_at (trees 9) (trees 14) seat) []
  at_seat seat =
      let advice = filter (advice_agrees seat) (trees 14) in
      map-flat_map (eval_all queued_project) (envs_at seat) (trees 9)
      ∙ (λ i. flat_map (λ request. at_request seat request i) (trees 9))
      ∙ apart (is_of expert seat) (request_agrees seat) (with_advice advice) (trees 9)
      ∙ ap (λ rows. cond (is_of expert seat) rows [])
      (of_passing (request_agrees seat) (with_advice advice) (trees 9))

  -- what is shown of the matches
  joined : map (eval_all queued_project) (matches trees queued_tests queued_from (params ∷ []))
      ≡ queued_rows trees expert
  joined =
      map-flat_map (eval_all queued_project) (λ seat. flat_map (envs_at seat) (trees 9)) (trees 11)
      ∙ (λ i. flat_map (λ seat. at_seat seat i) (trees 11))
      ∙ of_passing (is_of expert) (queued_at (trees 9) (trees 14)) (trees 11)

-- the rows of the query are what is shown of the expert's queue, in some order
pub queued_selected : (expert : Value) (old new : State) (rows : List Row)
    → BeginsWith 8 old.now.schema → Shown texts.SELECT_QUEUED.now (expert ∷ []) old new rows
    → IsPermutation (queued_rows old.now.trees expert) rows
queued_selected expert old new rows begins h =
    subst (λ xs. IsPermutation xs rows) (joined old.now.trees (expert ∷ []))
    (answered_rows texts.SELECT_QUEUED.now queued_from queued_tests queued_project queued_order
    (expert ∷ []) old new rows queued_of_expert begins h)
