-- A text that is a query is one whatever tables there are, and shows its rows and no others.
use Rattle.std.proofs.Common.{◌≡◌, ℕ, true, List, [], length, ◌==◌, ◌∙◌}
use Rattle.std.proofs.Common.{Option, None, Ok, refl, subst}
use Rattle.std.proofs.lemmas.Bool.{eqb-true}
use Rattle.std.specs.Prelude.{IfOk}
use Rattle.std.proofs.lemmas.List.{nil_from_length}
use Rattle.sqlite_ast.specs.declared.Statement.{Statement}
use Rattle.sqlite_ast.specs.declared.Statement.TheVariants as written
use Rattle.sqlite_syntax.specs.declared.statement.Parsed.{Parsed}
use Rattle.sqlite_schema.specs.declared.command.Command.{Command}
use Rattle.sqlite_schema.specs.declared.command.Returning.{Returning}
use Rattle.sqlite_resolve.specs.Compile.{first, planned, returning, timed, with_command}
use Rattle.sqlite_resolve.specs.Lowering.{Checked}
use Rattle.sqlite_resolve.specs.Scope.{Name}
use Rattle.sqlite_resolve.specs.declared.compiled.Compiled.{Compiled}
use Rattle.sqlite.specs.Listing.{understood}
use Rattle.sqlite.specs.Schema.{Schema}
use Rattle.reg_tables.specs.Kinds.{is_query, is_timeless, IsQuery}
use Rattle.reg_tables.proofs.Library.Compiling.{base_at, compiled_if, of_kind, planned_if, understood_if}

abbrev pub IsPlainly : Compiled → Type 0
IsPlainly c = (c.returning ≡ None) × (c.formats ≡ [])

returns_no_more : (schema : Schema) (base : ℕ) (s : Statement) → is_query s ≡ true
    → returning schema base s ≡ Ok None
unfolding returning
returns_no_more schema base (written.Select q) is = refl
returns_no_more schema base _ is = absurd (cc)

timed_as : (schema : Schema) (formats : List Name) (s : Statement) → is_query s ≡ true
    → timed schema formats s ≡ formats
unfolding timed
timed_as schema formats (written.Select q) is = refl
timed_as schema formats _ is = absurd (cc)

planned_query : (schema : Schema) (p : Parsed) → is_query p.statement ≡ true → p.formats ≡ []
    → (plan : List Name × (Command × Option Returning)) → planned schema p ≡ Ok plan
    → IsPlainly (with_command p plan)
planned_query schema p is none plan same =
    planned_if IsPlainly schema p plan same (returns_no_more schema (base_at schema p) p.statement is)
    (λ c made. (refl, timed_as schema p.formats p.statement is ∙ none))

timeless : (r : Checked Parsed) (p : Parsed) → r ≡ Ok p → is_timeless r ≡ true → p.formats ≡ []
timeless r p is none =
    let len : (length p.formats == 0) ≡ true = subst (λ r. is_timeless r ≡ true) is none in
    nil_from_length p.formats (eqb-true (length p.formats) 0 len)

-- a text that is a query is planned as one whatever tables there are
pub understood_query : (text : List ℕ) → IsQuery text → (schema : Schema)
    → IfOk (understood schema text) IsPlainly
understood_query text asks =
    let p = of_kind is_query (first text) asks.0 in
    let none = timeless (first text) p.0 p.1 asks.1 in
    understood_if IsPlainly text
    (λ schema. compiled_if IsPlainly text schema p.0 p.1 (planned_query schema p.0 p.2 none))
