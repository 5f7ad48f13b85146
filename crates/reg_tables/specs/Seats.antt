-- The query by which the experts of a request are read, each with the advice that the expert gave.
use Rattle.std.specs.Prelude.{Bool, List, [], ◌∷◌, map, filter, flat_map}
use Rattle.sqlite.specs.declared.types.Value.{Value}
use Rattle.sqlite.specs.Order.{Row, column}
use Rattle.sqlite.specs.Tree.{Trees}
use Rattle.sqlite.specs.Term.{Term, col}
use Rattle.sqlite.specs.Query.{Query, Join, inner, left, end, or_nulls}
use Rattle.sqlite_value.specs.declared.keys.Key.{Key}
use Rattle.reg_tables.specs.Editing.{has_all}
use Rattle.reg_tables.specs.Joining.{advice_agrees, joined_by}
use Rattle.reg_tables.specs.Schema.{advice_table, queue_table}
use Rattle.reg_tables.specs.Selecting.{equals, ordered_by, query_over}

-- ---- The query

-- The slots are 0 for the parameters, 1 for the queue and 2 for the advice.

-- the queue, then the advice, where there is one
abbrev pub seats_from : Join
seats_from =
    inner queue_table.tree (left advice_table.tree (joined_by 2 (1 ∷ 2 ∷ 3 ∷ [])) end)

-- the request is the one of the parameters
abbrev pub seats_tests : List Term
seats_tests = equals ((1, 0) ∷ (2, 1) ∷ [])

-- the columns of the queue, and the verdict and the text of the advice
abbrev pub seats_project : List Term
seats_project = col 1 1 ∷ col 1 2 ∷ col 1 3 ∷ col 2 4 ∷ col 2 5 ∷ []

-- by expert
abbrev pub seats_order : List (Term × Key)
seats_order = ordered_by (3 ∷ [])

abbrev pub seats_query : Query
seats_query = query_over seats_from seats_tests seats_project seats_order

-- ---- Its rows

-- the row of the queue is this request's
abbrev pub is_seat_of : Value → Value → Row → Bool
is_seat_of account reference = has_all ((1, account) ∷ (2, reference) ∷ [])

-- what is shown of a row of the queue and one of the advice
abbrev pub seat_columns : Row → Row → Row
seat_columns seat advice =
    column seat 1 ∷ column seat 2 ∷ column seat 3 ∷ column advice 4 ∷ column advice 5 ∷ []

-- what is shown of a row of the queue: with the expert's advice, or without any
abbrev pub seat_rows : List Row → Row → List Row
seat_rows advice seat = map (seat_columns seat) (or_nulls (filter (advice_agrees seat) advice))

-- what is shown of the experts of a request
abbrev pub seats_rows : Trees → Value → Value → List Row
seats_rows trees account reference =
    flat_map (seat_rows (trees advice_table.tree))
    (filter (is_seat_of account reference) (trees queue_table.tree))
