-- What the rows of a SELECT are.
use Rattle.std.specs.Prelude.{IfOk, unwrap_or}
use Rattle.std.proofs.Common.{◌≡◌, ℕ, ◌^◌, nat_le, List, [], ◌∷◌, ◌++◌}
use Rattle.std.proofs.Common.{take, drop, map, filter, true, false, cond, None, Ok, Err, Result, refl, sym, ap, subst, ◌∙◌}
use Rattle.std.specs.List.{flat_map, range_with_len}
use Rattle.std.specs.List.Sorted.{IsPermutation}
use Rattle.std.proofs.lemmas.List.Sorted.{IsPermutation-map}
use Rattle.sqlite.specs.declared.types.Value.TheVariants.{Null}
use Rattle.sqlite.specs.Order.{Row, column}
use Rattle.std.proofs.lemmas.List.{take-append-drop}
use Rattle.sqlite.specs.Schema.{Schema}
use Rattle.sqlite.specs.Tree.{Trees}
use Rattle.sqlite.specs.Term.{Term, Env, col, eval_all}
use Rattle.sqlite.specs.Query.{Query, Join, inner, end, IsAnswer, matches, output, Output}
use Rattle.sqlite.specs.Program.{overlay}
use Rattle.sqlite.specs.Command.TheVariants.{Select}
use Rattle.sqlite.specs.State.{State, Shown}
use Rattle.sqlite.proofs.Callers.{IsPlain, command_of, reads_as}
use Rattle.sqlite_resolve.specs.declared.compiled.Compiled.{Compiled}
use Rattle.sqlite_resolve.specs.declared.error.CompileError.{CompileError}
use Rattle.sqlite_schema.specs.declared.program.Program.{Program}
use Rattle.sqlite_value.specs.declared.keys.Key.{Key}
use Rattle.sqlite.specs.Listing.{understood, reads_listing}
use Rattle.reg_tables.specs.Kinds.{IsQuery}
use Rattle.reg_tables.specs.Schema.{office_schema}
use Rattle.reg_tables.proofs.Library.Queries.{IsPlainly, understood_query}
use Rattle.reg_tables.specs.Selecting.{BeginsWith, beginning, query_over, select_from, passes, shows, IsTextOf, SelectsFrom, columns_of, stored}

-- ---- Any query of this form

module _ (from : Join) (tests project : List Term) (order : List (Term × Key)) (params : Row) where
  abbrev q : Query
  q = query_over from tests project order

  abbrev values : List Output → List Row
  values = map (λ (o : Output). o.1)

  -- what is shown of each match
  abbrev shown_in : List Env → List Row
  shown_in = map (eval_all project)

  shown_of : (envs : List Env) → values (map (output q) envs) ≡ shown_in envs
  shown_of [] = refl
  shown_of (env ∷ envs) = ap (λ more. eval_all project env ∷ more) (shown_of envs)

  -- what is shown of the matches, in some order
  pub answered : (db : Trees) (rows : List Row) → IsAnswer q db params rows
      → IsPermutation (shown_in (matches db tests from (params ∷ []))) rows
  answered db rows a =
      let moved = IsPermutation-map (λ (o : Output). o.1) a.kept a.ordered a.same in
      let kept : values a.kept ≡ shown_in (matches db tests from (params ∷ [])) =
      ap values (a.distinct ∙ ap (map (output q)) a.grouped)
      ∙ shown_of (matches db tests from (params ∷ [])) in
      let shown : rows ≡ values a.ordered = a.shown in
      subst (λ xs. IsPermutation xs rows) kept
      (subst (IsPermutation (values a.kept)) (sym shown) moved)

-- no table is computed first
pub as_kept : (db : Trees) (t : ℕ) → overlay db [] t ≡ db t
as_kept db t = elim (nat_le (2 ^ 31) t) as (λ b. unwrap_or (cond b None None) (db t) ≡ db t) [
  | true ↦ refl
  | false ↦ refl
]

pub plain_query : (r : Result Compiled CompileError) (program : Program) (names : List (List ℕ))
    → IfOk r IsPlainly → command_of r ≡ Select program names → IsPlain r
plain_query (Ok c) program names plain is = plain
plain_query (Err e) program names plain is = absurd (cc)

-- an office has the first so many of its tables first
pub office_begins : {schema : Schema} (n : ℕ) → schema ≡ office_schema → BeginsWith n schema
office_begins n is = record {
  tables = ap (λ (s : Schema). take n s.tables) is;
  views = ap (λ (s : Schema). s.views) is;
}

-- such a schema, written out
begun : (n : ℕ) (schema : Schema) → BeginsWith n schema
    → schema ≡ beginning n (drop n schema.tables) schema.indexes
begun n schema begins =
    let tables = sym (take-append-drop n schema.tables)
    ∙ ap (λ front. front ++ drop n schema.tables) begins.tables in
    λ i. record { tables = tables i; indexes = schema.indexes; views = begins.views i }

-- what a text shows that is a query at this schema is what is shown of the matches, in some order
pub rows_as : (sql : List ℕ) (from : Join) (tests project : List Term)
    (order : List (Term × Key)) (params : Row) (old new : State) (rows : List Row)
    (schema : Schema) (names : List (List ℕ)) → old.now.schema ≡ schema
    → command_of (understood schema sql)
    ≡ Select (record { lets = []; body = query_over from tests project order }) names
    → IsQuery sql → reads_listing schema sql ≡ false → Shown sql params old new rows
    → IsPermutation (map (eval_all project) (matches old.now.trees tests from (params ∷ []))) rows
rows_as sql from tests project order params old new rows schema names has is asks unlisted h =
    let plain = plain_query _ _ names (understood_query sql asks schema) is in
    let read = reads_as sql params old new schema has (Select _ names) is plain unlisted rows h in
    subst (λ db. IsPermutation (map (eval_all project) (matches db tests from (params ∷ []))) rows)
    (λ i t. as_kept old.now.trees t i)
    (answered from tests project order params (overlay old.now.trees []) rows (read.answer Null))

-- the rows of a query are what is shown of the matches, in some order
pub answered_rows : {n : ℕ} (sql : List ℕ) (from : Join) (tests project : List Term)
    (order : List (Term × Key)) (params : Row) (old new : State) (rows : List Row)
    → IsTextOf n sql (query_over from tests project order) → BeginsWith n old.now.schema
    → Shown sql params old new rows
    → IsPermutation (map (eval_all project) (matches old.now.trees tests from (params ∷ []))) rows
answered_rows {n = n} sql from tests project order params old new rows s begins =
    let more = drop n old.now.schema.tables in
    let indexes = old.now.schema.indexes in
    rows_as sql from tests project order params old new rows (beginning n more indexes) s.names
    (begun n old.now.schema begins) (s.is more indexes) s.plain (s.unlisted more indexes)

-- ---- Over one table

module _ (tests project : List Term) (params : Row) where
  abbrev env_of : Row → List Env
  env_of r = cond (passes tests params r) ((params ∷ r ∷ []) ∷ []) []

  pub matched : (rs : List Row) → map (eval_all project) (flat_map env_of rs)
      ≡ map (shows project params) (filter (passes tests params) rs)
  matched [] = refl
  matched (r ∷ rs) = elim (passes tests params r) as (λ b.
      map (eval_all project) (cond b ((params ∷ r ∷ []) ∷ []) [] ++ flat_map env_of rs)
      ≡ map (shows project params) (cond b (r ∷ filter (passes tests params) rs)
      (filter (passes tests params) rs))) [
        | true ↦ ap (λ more. shows project params r ∷ more) (matched rs)
        | false ↦ matched rs
      ]

-- the rows that pass, in some order
pub answer_rows : (t : ℕ) (tests project : List Term) (order : List (Term × Key)) (params : Row)
    (db : Trees) (rows : List Row) → IsAnswer (select_from t tests project order) db params rows
    → IsPermutation (map (shows project params) (filter (passes tests params) (db t))) rows
answer_rows t tests project order params db rows a =
    subst (λ xs. IsPermutation xs rows) (matched tests project params (db t))
    (answered (inner t end) tests project order params db rows a)

-- the rows of a query are what is shown of the rows that pass, in some order
pub selected : {n : ℕ} (sql : List ℕ) (t : ℕ) (tests project : List Term)
    (order : List (Term × Key)) (params : Row) (old new : State) (rows : List Row)
    → SelectsFrom n sql t tests project order → BeginsWith n old.now.schema
    → Shown sql params old new rows
    → IsPermutation (map (shows project params) (filter (passes tests params) (old.now.trees t)))
    rows
selected sql t tests project order params old new rows s begins h =
    subst (λ xs. IsPermutation xs rows) (matched tests project params (old.now.trees t))
    (answered_rows sql (inner t end) tests project order params old new rows s begins h)

columns_shown : (params row : Row) (places : List ℕ)
    → shows (map (col 1) places) params row ≡ map (column row) places
columns_shown params row [] = refl
columns_shown params row (c ∷ places) =
    ap (λ more. column row c ∷ more) (columns_shown params row places)

-- a row is shown whole by all its columns
pub shows_columns : (n : ℕ) (params row : Row) → shows (columns_of n) params row ≡ stored n row
shows_columns n params row = columns_shown params row (range_with_len 1 n)
