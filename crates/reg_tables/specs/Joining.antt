-- The query by which an expert's queue is read: each request that is assigned to the expert, with
-- the expert's own advice.
use Rattle.std.specs.Prelude.{ℕ, Bool, List, [], ◌∷◌, ◌++◌, map, filter, flat_map}
use Rattle.std.specs.List.{list_all, range_with_len}
use Rattle.sqlite.specs.declared.types.Value.{Value}
use Rattle.sqlite.specs.Collation.TheVariants.{Binary}
use Rattle.sqlite.specs.Order.{Row, column}
use Rattle.sqlite.specs.Tree.{Trees}
use Rattle.sqlite.specs.Term.{Term, col, op2}
use Rattle.sqlite.specs.Query.{Query, Join, inner, left, end, or_nulls}
use Rattle.sqlite_value.specs.Keys.{ascending}
use Rattle.sqlite_value.specs.declared.keys.Key.{Key}
use Rattle.sqlite_sql.specs.declared.ops.BinaryOp.TheVariants.{Compare}
use Rattle.sqlite_sql.specs.declared.ops.CompareOp.TheVariants.{Eq}
use Rattle.reg_tables.specs.Schema.{advice_table, queue_table, requests_table}
use Rattle.reg_tables.specs.Selecting.{query_over, stored}
use Rattle.reg_tables.specs.Values.{same_value}

-- ---- The query

-- The slots are 0 for the parameters, 1 for the queue, 2 for the requests and 3 for the advice.

-- the row in this slot has what the row of the queue has, in these columns
abbrev pub joined_by : ℕ → List ℕ → List Term
joined_by slot places = map (λ c. op2 (Compare Eq Binary) (col slot c) (col 1 c)) places

-- the queue, then the requests, then the advice, where there is one
abbrev pub queued_from : Join
queued_from =
    inner queue_table.tree (inner requests_table.tree
    (left advice_table.tree (joined_by 3 (1 ∷ 2 ∷ 3 ∷ [])) end))

-- the request is the one that the queue names, and the expert is the parameter
abbrev pub queued_tests : List Term
queued_tests = joined_by 2 (1 ∷ 2 ∷ []) ++ op2 (Compare Eq Binary) (col 1 3) (col 0 0) ∷ []

-- the columns of the requests, and the verdict and the text of the advice
abbrev pub queued_project : List Term
queued_project = map (col 2) (range_with_len 1 25) ++ col 3 4 ∷ col 3 5 ∷ []

-- by account, then by reference
abbrev pub queued_order : List (Term × Key)
queued_order = (col 1 1, ascending Binary) ∷ (col 1 2, ascending Binary) ∷ []

-- the query of an expert's queue, over three tables
abbrev pub queued_query : Query
queued_query = query_over queued_from queued_tests queued_project queued_order

-- ---- Its rows

-- a row has what a row of the queue has, in these columns
abbrev agrees : List ℕ → Row → Row → Bool
agrees places seat row = list_all (λ c. same_value (column row c) (column seat c)) places

-- the row of a request is of the request that a row of the queue names
abbrev pub request_agrees : Row → Row → Bool
request_agrees seat request = agrees (1 ∷ 2 ∷ []) seat request

-- the row of an advice is of that request, and by that expert
abbrev pub advice_agrees : Row → Row → Bool
advice_agrees seat advice = agrees (1 ∷ 2 ∷ 3 ∷ []) seat advice

-- the row of the queue is this expert's
abbrev pub is_of : Value → Row → Bool
is_of expert seat = same_value (column seat 3) expert

-- what is shown of a request and an advice
abbrev pub queued_columns : Row → Row → Row
queued_columns request advice = stored 25 request ++ column advice 4 ∷ column advice 5 ∷ []

-- what is shown of a request: a row for each of these rows of advice, or one without any
abbrev pub with_advice : List Row → Row → List Row
with_advice advice request = map (queued_columns request) (or_nulls advice)

-- what is shown of a row of the queue, of the rows of requests and of advice
abbrev pub queued_at : List Row → List Row → Row → List Row
queued_at requests advice seat =
    flat_map (with_advice (filter (advice_agrees seat) advice))
    (filter (request_agrees seat) requests)

-- what is shown of the queue of an expert
abbrev pub queued_rows : Trees → Value → List Row
queued_rows trees expert =
    flat_map (queued_at (trees requests_table.tree) (trees advice_table.tree))
    (filter (is_of expert) (trees queue_table.tree))
