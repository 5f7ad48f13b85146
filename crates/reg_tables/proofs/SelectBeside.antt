-- The query on the version reads its table wherever that stands.
use Rattle.std.proofs.Common.{◌≡◌, ◌∙◌, ℕ, Bool, true, false, List, [], ◌∷◌, None, Some, Err, Ok, codes}
use Rattle.std.proofs.Common.{filter, map, slice_get, refl, inl, inr, ap, subst}
use Rattle.std.specs.Prelude.{negsuc}
use Rattle.std.specs.List.Sorted.{IsPermutation}
use Rattle.std.proofs.lemmas.Bool.{cases_Bool}
use Rattle.sqlite.specs.Command.TheVariants as does
use Rattle.sqlite.specs.Listing.{understood}
use Rattle.sqlite.specs.Order.{Row}
use Rattle.sqlite.specs.Query.{end, inner}
use Rattle.sqlite.specs.Schema.{Schema}
use Rattle.sqlite.specs.State.{State, Shown as Shows}
use Rattle.sqlite.specs.Table.{Table}
use Rattle.sqlite.proofs.Callers.{command_of}
use Rattle.sqlite_ast.specs.declared.Core.{roll-Core}
use Rattle.sqlite_ast.specs.declared.Expr.{roll-Expr}
use Rattle.sqlite_ast.specs.declared.Expr.TheOpen.{Expr-F, Shown-F}
use Rattle.sqlite_ast.specs.declared.Origin.TheVariants as origin
use Rattle.sqlite_ast.specs.declared.Select.{Select, roll-Select}
use Rattle.sqlite_ast.specs.declared.Shown.{roll-Shown}
use Rattle.sqlite_ast.specs.declared.Source.{roll-Source}
use Rattle.sqlite_ast.specs.declared.Statement.TheVariants as written
use Rattle.sqlite_draft.specs.Join.{chain}
use Rattle.sqlite_draft.specs.Query.{query_of}
use Rattle.sqlite_draft.specs.declared.join.Step.TheVariants.{Inner}
use Rattle.sqlite_draft.specs.declared.query.Draft.{Draft}
use Rattle.sqlite_resolve.specs.Compile.{command, compiled, first, meaning, planned, read, returning, timed}
use Rattle.sqlite_resolve.specs.Program.{Building, Shown as Answered, level, program, query, query_to}
use Rattle.sqlite_resolve.specs.Terms.{number}
use Rattle.sqlite_resolve.specs.declared.compiled.Compiled.{Compiled}
use Rattle.sqlite_resolve.specs.declared.error.CompileError.TheVariants.{Mismatch}
use Rattle.sqlite_schema.specs.Names.{table_named}
use Rattle.sqlite_sql.specs.Term.{col, lit}
use Rattle.sqlite_syntax.specs.declared.statement.Parsed.{Parsed}
use Rattle.sqlite_tied.specs.Compute.{everything}
use Rattle.sqlite_typing.specs.Types.{accepts_program}
use Rattle.sqlite_value.specs.declared.keys.Collation.TheVariants.{Binary}
use Rattle.sqlite_value.specs.declared.value.Value.TheVariants.{Int}
use Rattle.reg_tables.specs.Having.{HasTable}
use Rattle.reg_tables.specs.Kinds.{IsQuery}
use Rattle.reg_tables.specs.Schema.{office_table}
use Rattle.reg_tables.specs.Selecting.{columns_of, passes, select_from, shows, stored}
use Rattle.reg_tables.specs.declared.texts.TheConstants.{SELECT_VERSION}
use Rattle.reg_tables.proofs.SelectLemmas.{matched, rows_as, shows_columns}

-- what the text is
abbrev asked : Select
asked = roll-Select (record {
  with = [];
  first = roll-Core (record {
    distinct = false;
    shown = roll-Shown (Shown-F.One (roll-Expr (Expr-F.Column None (codes "version"))) None (codes "version")) ∷ [];
    from = roll-Source (record { is_left = false; origin = origin.Table (codes "office"); alias = None; on = None; using = [] }) ∷ [];
    filter = None;
    group = [];
    having = None;
  });
  others = [];
  order = [];
  limit = None;
  offset = None;
})

abbrev parsed : Parsed
parsed = record { statement = written.Select asked; names = []; formats = []; start = 0; end = 26; tail = 26 }

reads_text : first SELECT_VERSION.now ≡ Ok parsed
unfolding everything
reads_text = refl

module _ (schema : Schema) (at k : ℕ) (named : table_named schema office_table.name ≡ Some at)
    (there : slice_get schema.tables at ≡ Some (record office_table { tree = k })) where
  abbrev draft : Draft
  draft = record {
    from = chain (Inner k ∷ []);
    filter = [];
    group = None;
    project = col 1 1 ∷ [];
    distinct = false;
    collations = [];
    order = [];
    limit = lit (Int (negsuc 0));
    offset = number 0;
  }

  abbrev answer : Answered
  answer = (draft, codes "version" ∷ [], Some Binary ∷ [])

  levels : (each : Schema → Select → Building Answered) → level each schema asked [] ≡ Ok (answer, [])
  unfolding everything
  levels each = simp (named, there)

  queries : query schema asked ≡ Ok (answer, [])
  unfolding query query_to
  queries = levels (query_to 15)

  -- ---- The text, where the columns have the types that the query asks for

  is_query_of : query_of draft ≡ select_from k [] (columns_of 1) []
  unfolding everything
  is_query_of = refl

  abbrev is_accepted : Bool
  is_accepted = accepts_program schema [] (query_of draft) []

  abbrev text : Compiled
  text = record {
    command = does.Select (record { lets = []; body = query_of draft }) (codes "version" ∷ []);
    returning = None;
    names = [];
    formats = [];
    start = 0;
    end = 26;
    tail = 26;
  }

  compiles : is_accepted ≡ true → compiled schema SELECT_VERSION.now ≡ Ok text
  unfolding compiled planned meaning timed returning command read program
  compiles fits = rw (reads_text, queries, fits) refl

  refused : is_accepted ≡ false → compiled schema SELECT_VERSION.now ≡ Err Mismatch
  unfolding compiled planned meaning timed returning command read program
  refused unfit = rw (reads_text, queries, unfit) refl

-- ---- Where the table of the office is, its rows are what is shown

is_query : IsQuery SELECT_VERSION.now
unfolding everything
is_query = (refl, refl)

all_pass : (params : Row) (rows : List Row) → filter (passes [] params) rows ≡ rows
all_pass params [] = refl
all_pass params (row ∷ rows) = ap (λ more. row ∷ more) (all_pass params rows)

understood_as : (schema : Schema) (sql : List ℕ) (c : Compiled) → compiled schema sql ≡ Ok c
    → understood schema sql ≡ Ok c
unfolding understood
understood_as schema sql c is = rw is refl

not_shown : (sql : List ℕ) (params : Row) (old new : State) (rows : List Row)
    → compiled old.now.schema sql ≡ Err Mismatch → Shows sql params old new rows → ⊥
unfolding Shows understood
not_shown sql params old new rows is h = absurd (let e = rw is at h.1.is in cc)

-- the query on the version shows the rows of its table, wherever that stands, in some order
pub version_shown : (old : State) (has : HasTable old.now.schema office_table) (new : State)
    (rows : List Row) → Shows SELECT_VERSION.now [] old new rows
    → IsPermutation (map (stored 1) (old.now.trees has.table.tree)) rows
version_shown old has new rows h =
    let schema = old.now.schema in
    let k = has.table.tree in
    let there : slice_get schema.tables has.at ≡ Some (record office_table { tree = k }) =
    has.there ∙ ap (λ (t : Table). Some (record t { tree = k })) has.same in
    elim (cases_Bool (is_accepted schema has.at k has.named there)) [
      | inl fits ↦
          let means = compiles schema has.at k has.named there fits in
          let is = ap command_of (understood_as schema _ _ means) in
          let answer = rows_as _ (inner k end) [] (columns_of 1) [] [] old new rows schema _ refl
          (subst (λ q. command_of (understood schema SELECT_VERSION.now)
          ≡ does.Select (record { lets = []; body = q }) (codes "version" ∷ []))
          (is_query_of schema has.at k has.named there) is) is_query (rw means refl) h in
          subst (λ xs. IsPermutation xs rows) (matched [] (columns_of 1) [] (old.now.trees k)
          ∙ ap (map (shows (columns_of 1) [])) (all_pass [] (old.now.trees k))
          ∙ (λ i. map (λ r. shows_columns 1 [] r i) (old.now.trees k))) answer
      | inr unfit ↦
          absurd (not_shown _ [] old new rows (refused schema has.at k has.named there unfit) h)
    ]
