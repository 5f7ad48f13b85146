-- A text that writes rows does so whatever tables there are, and leaves each table's definition.
use Rattle.std.proofs.Common.{◌≡◌, ℕ, Bool, true, false, if◌then◌else◌, List, [], length, ◌==◌}
use Rattle.std.proofs.Common.{Option, Some, None, Ok, refl, ap, subst, inl, inr, slice_get}
use Rattle.std.proofs.lemmas.Bool.{cases_Bool}
use Rattle.sqlite.specs.Clock.{timed as timed_with}
use Rattle.sqlite.specs.Does.{Tally, AtPlace, OnTable, OnRows}
use Rattle.sqlite.specs.Effect.{Database}
use Rattle.sqlite.specs.Order.{Row}
use Rattle.sqlite.specs.Rows.{Part, Task}
use Rattle.sqlite.specs.State.{State, Executes, ExecutesIn, Runs, mode_of, shows_rows, text_of}
use Rattle.sqlite.specs.declared.run.Mode.{Mode}
use Rattle.std.specs.Prelude.{IfOk}
use Rattle.sqlite_ast.specs.declared.Conflict.TheVariants as conflict
use Rattle.sqlite_ast.specs.declared.Expr.{Expr}
use Rattle.sqlite_ast.specs.declared.Rows.{Rows}
use Rattle.sqlite_ast.specs.declared.Shown.{Shown}
use Rattle.sqlite_ast.specs.declared.Statement.{Statement}
use Rattle.sqlite_ast.specs.declared.Statement.TheVariants as written
use Rattle.sqlite_ast.specs.declared.Upsert.{Upsert}
use Rattle.sqlite_syntax.specs.declared.statement.Parsed.{Parsed}
use Rattle.sqlite_schema.specs.declared.command.Command.{Command}
use Rattle.sqlite_schema.specs.declared.command.Command.TheVariants.{Insert, InsertOr, Update, Delete}
use Rattle.sqlite_schema.specs.declared.command.Conflict.{Conflict as Way}
use Rattle.sqlite_schema.specs.declared.command.Conflict.TheVariants.{Abort, Ignore, Replace}
use Rattle.sqlite_schema.specs.declared.command.Source.{Source}
use Rattle.sqlite_schema.specs.declared.command.Returning.{Returning}
use Rattle.sqlite_resolve.specs.Compile.{first, planned, command, returning}
use Rattle.sqlite_resolve.specs.Compile.{shows, insert, insert_or, insert_or_abort, update}
use Rattle.sqlite_resolve.specs.Compile.{delete, with_command, on_table, target, new_rows}
use Rattle.sqlite_resolve.specs.Body.{table_at}
use Rattle.sqlite_resolve.specs.Given.{upserts}
use Rattle.sqlite_resolve.specs.Program.{program}
use Rattle.sqlite_resolve.specs.Write.{updated, deleted}
use Rattle.sqlite_resolve.specs.Lowering.{Checked, and_then}
use Rattle.sqlite_resolve.specs.Scope.{Name}
use Rattle.sqlite_resolve.specs.declared.compiled.Compiled.{Compiled}
use Rattle.sqlite.specs.Listing.{understood}
use Rattle.sqlite.specs.Schema.{Schema}
use Rattle.sqlite.specs.Table.{Table}
use Rattle.reg_tables.specs.Kinds.{is_write, WritesRows}
use Rattle.reg_tables.proofs.Library.Compiling.{base_at, compiled_if, if_then, of_kind, planned_if}
use Rattle.reg_tables.proofs.Library.Compiling.{understood_if}
use Rattle.reg_tables.proofs.Library.Parts.{concluded, went}

-- ---- The command

-- the command adds, changes or takes away rows
abbrev pub changes_rows : Command → Bool
changes_rows (Insert at from) = true
changes_rows (InsertOr at way from clauses) = true
changes_rows (Update at q) = true
changes_rows (Delete at q) = true
changes_rows _ = false

abbrev Changes : Command → Type 0
Changes c = changes_rows c ≡ true

module _ (schema : Schema) (base : ℕ) where
  on_each : (name : Name) (f : ℕ → Table → Checked Command)
      → ((at : ℕ) (table : Table) → IfOk (f at table) Changes)
      → IfOk (on_table schema name f) Changes
  on_each name f all =
      if_then Changes (target schema name) (λ at. and_then (table_at schema at) (f at))
      (λ at. if_then Changes (table_at schema at) (f at) (all at))

  abbrev rows_of : Table → List Name → Rows → Checked Source
  rows_of table columns rows = new_rows schema table base columns rows

  inserts : (name : Name) (columns : List Name) (rows : Rows)
      → IfOk (insert schema base name columns rows) Changes
  unfolding insert
  inserts name columns rows =
      on_each name _ (λ at table. if_then Changes (rows_of table columns rows) _ (λ s. refl))

  inserts_or : (way : Way) (name : Name) (columns : List Name) (rows : Rows)
      (clauses : List Upsert) → IfOk (insert_or schema base way name columns rows clauses) Changes
  unfolding insert_or
  inserts_or way name columns rows clauses =
      on_each name _ (λ at table. if_then Changes (rows_of table columns rows) _
      (λ s. if_then Changes (upserts schema at table base clauses) _ (λ found. refl)))

  updates : (name : Name) (sets : List (Name × Expr)) (test : Option Expr)
      → IfOk (update schema name sets test) Changes
  unfolding update
  updates name sets test =
      on_each name _ (λ at table. if_then Changes (updated schema at table sets test) _
      (λ d. if_then Changes (program schema [] d) _ (λ p. refl)))

  deletes : (name : Name) (test : Option Expr) → IfOk (delete schema name test) Changes
  unfolding delete
  deletes name test =
      on_each name _ (λ at table. if_then Changes (deleted schema at table test) _
      (λ d. if_then Changes (program schema [] d) _ (λ p. refl)))

  inserts_or_not : (name : Name) (columns : List Name) (rows : Rows) (clauses : List Upsert)
      → IfOk (insert_or_abort schema base name columns rows clauses) Changes
  unfolding insert_or_abort
  inserts_or_not name columns rows clauses = elim (length clauses == 0) as (λ b.
      IfOk (if b then insert schema base name columns rows
      else insert_or schema base Abort name columns rows clauses) Changes) [
        | true ↦ inserts name columns rows
        | false ↦ inserts_or Abort name columns rows clauses
      ]

  commands : (formats : List Name) (s : Statement) → is_write s ≡ true
      → IfOk (command schema formats base s) Changes
  unfolding command
  commands formats (written.Insert conflict.Abort name columns rows clauses shown) is =
      inserts_or_not name columns rows clauses
  commands formats (written.Insert conflict.Ignore name columns rows clauses shown) is =
      inserts_or Ignore name columns rows clauses
  commands formats (written.Insert conflict.Replace name columns rows clauses shown) is =
      inserts_or Replace name columns rows clauses
  commands formats (written.Update name sets test shown) is = updates name sets test
  commands formats (written.Delete name test shown) is = deletes name test
  commands formats _ is = absurd (cc)

  shown_none : (name : Name) (shown : List Shown) → (length shown == 0) ≡ true
      → shows schema base name shown ≡ Ok None
  unfolding shows
  shown_none name shown none = rw none refl

  returns_none : (s : Statement) → is_write s ≡ true → returning schema base s ≡ Ok None
  unfolding returning
  returns_none (written.Insert how name columns rows clauses shown) is = shown_none name shown is
  returns_none (written.Update name sets test shown) is = shown_none name shown is
  returns_none (written.Delete name test shown) is = shown_none name shown is
  returns_none _ is = absurd (cc)

-- the statement writes rows, and shows none
abbrev pub IsWrite : Compiled → Type 0
IsWrite c = Changes c.command × (c.returning ≡ None)

planned_write : (schema : Schema) (p : Parsed) → is_write p.statement ≡ true
    → (plan : List Name × (Command × Option Returning)) → planned schema p ≡ Ok plan
    → IsWrite (with_command p plan)
planned_write schema p is plan same =
    let base = base_at schema p in
    planned_if IsWrite schema p plan same (returns_none schema base p.statement is) (λ c made.
    (subst (λ r. IfOk r Changes) made (commands schema base p.formats p.statement is), refl))

-- a text that writes rows does so whatever tables there are
pub understood_write : (text : List ℕ) → WritesRows text → (schema : Schema)
    → IfOk (understood schema text) IsWrite
understood_write text writes =
    let p = of_kind is_write (first text) writes in
    understood_if IsWrite text
    (λ schema. compiled_if IsWrite text schema p.0 p.1 (planned_write schema p.0 p.2))

-- ---- What it leaves of the tables

at_place : (P : Table → Part (Tally × Database)) (o : Option Table) (done : Tally × Database)
    → AtPlace P o (Ok done) → (t : Table) × P t (Ok done)
at_place P None done h = absurd (cc)
at_place P (Some t) done h = (t, h)

-- a write on a table leaves the definitions
module _ (limit : Option ℕ) (mode : Mode) (params : Row) (old new : Database) (tally : Tally) where
  on_rows : (c : Command) (at : ℕ)
      → OnTable limit mode params old at (λ task. OnRows task mode None c old.trees)
      (Ok (tally, new)) → new.schema ≡ old.schema
  on_rows c at h =
      let task : Table → Task = λ t. record {
        limit = limit;
        keys = mode.keys;
        schema = old.schema;
        table = t;
        params = params;
      } in
      let there = at_place (λ t. OnRows (task t) mode None c old.trees)
      (slice_get old.schema.tables at) (tally, new) h in
      let done = went there.1 in
      ap (λ (d : Database). d.schema) (concluded (task there.0) mode done.0 tally new done.2)

runs_rows : (old new : State) (c : Command) (text : List ℕ) (params : Row) (count : ℕ) → Changes c
    → Runs old new None c text params count → new.now.schema ≡ old.now.schema
runs_rows old new (Insert at from) text params count is w =
    on_rows old.step_limit (mode_of old) params old.now new.now w.tally (Insert at from) at w.changed
runs_rows old new (InsertOr at way from clauses) text params count is w =
    on_rows old.step_limit (mode_of old) params old.now new.now w.tally
    (InsertOr at way from clauses) at w.changed
runs_rows old new (Update at q) text params count is w =
    on_rows old.step_limit (mode_of old) params old.now new.now w.tally (Update at q) at w.changed
runs_rows old new (Delete at q) text params count is w =
    on_rows old.step_limit (mode_of old) params old.now new.now w.tally (Delete at q) at w.changed
runs_rows old new _ text params count is w = absurd (cc)

-- a text that writes rows leaves each table's definition, whatever tables there are
pub written_schema : (text : List ℕ) (params : Row) (old new : State) (count : ℕ)
    → WritesRows text → Executes text params old new (Ok count)
    → new.now.schema ≡ old.now.schema
unfolding ExecutesIn
written_schema text params old new count writes h =
    let it = subst (λ r. IfOk r IsWrite) h.1.is (understood_write text writes old.now.schema) in
    let ran : Runs old new h.0.returning h.0.command (text_of text h.0)
    (timed_with params h.0.formats h.1.now) count = elim (cases_Bool (shows_rows false h.0)) [
      | inl shows ↦ absurd (let e = (rw shows at h.2).0 in cc)
      | inr runs ↦ rw runs at h.2
    ] in
    runs_rows old new h.0.command _ _ count it.0 (rw it.1 at ran)
