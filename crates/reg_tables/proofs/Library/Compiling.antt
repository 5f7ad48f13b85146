-- What is so of a text whatever tables there are follows of what it is parsed to, planned as and compiled to.
use Rattle.std.proofs.Common.{◌≡◌, ℕ, ◌+◌, Bool, true, false, if◌then◌else◌, List}
use Rattle.std.proofs.Common.{None, Option, Ok, Err, Result, refl, sym, subst}
use Rattle.std.specs.Prelude.{IfOk}
use Rattle.sqlite_ast.specs.declared.Statement.{Statement}
use Rattle.sqlite_syntax.specs.declared.statement.Parsed.{Parsed}
use Rattle.sqlite_schema.specs.declared.command.Command.{Command}
use Rattle.sqlite_schema.specs.declared.command.Returning.{Returning}
use Rattle.sqlite_resolve.specs.Compile.{command, compiled, first, meaning, planned, returning}
use Rattle.sqlite_resolve.specs.Compile.{small, timed, with_command}
use Rattle.sqlite_resolve.specs.Lowering.{Checked, and_then}
use Rattle.sqlite_resolve.specs.Scope.{Name}
use Rattle.sqlite_resolve.specs.declared.compiled.Compiled.{Compiled}
use Rattle.sqlite_resolve.specs.declared.error.CompileError.{CompileError}
use Rattle.sqlite_resolve.specs.declared.error.CompileError.TheVariants.{NoSuchTable}
use Rattle.sqlite.specs.Listing.{understood, reads_listing, if_select, is_select, listing_schema}
use Rattle.sqlite.specs.Schema.{Schema}
use Rattle.reg_tables.specs.Kinds.{is_of_kind}

-- what follows of each value with a property follows of what is made of it
pub if_also : {A B : Type 0} (P : A → Type 0) (Q : B → Type 0) (r : Checked A) (f : A → Checked B)
    → IfOk r P → ((a : A) → P a → IfOk (f a) Q) → IfOk (and_then r f) Q
if_also P Q (Ok a) f p all = all a p
if_also P Q (Err e) f p all = tt

-- what follows of each value follows of what is made of it
pub if_then : {A B : Type 0} (P : B → Type 0) (r : Checked A) (f : A → Checked B)
    → ((a : A) → IfOk (f a) P) → IfOk (and_then r f) P
if_then P (Ok a) f all = all a
if_then P (Err e) f all = tt

selected : (P : Compiled → Type 0) (c : Compiled) (e : CompileError) (b : Bool) → P c
    → IfOk (if b then Ok c else Err e) P
selected P c e true p = p
selected P c e false p = tt

listed : (P : Compiled → Type 0) (r : Result Compiled CompileError) → IfOk r P
    → IfOk (if_select r) P
listed P (Ok c) p = selected P c NoSuchTable (is_select c.command) p
listed P (Err e) p = tt

-- what follows under each schema follows of what is understood
pub understood_if : (P : Compiled → Type 0) (text : List ℕ)
    → ((schema : Schema) → IfOk (compiled schema text) P) → (schema : Schema)
    → IfOk (understood schema text) P
unfolding understood
understood_if P text all schema = elim (reads_listing schema text) as (λ b.
    IfOk (if b then if_select (compiled listing_schema text) else compiled schema text) P) [
      | true ↦ listed P _ (all listing_schema)
      | false ↦ all schema
    ]

-- what follows of what a text is planned as follows of what it is compiled to
pub compiled_if : (P : Compiled → Type 0) (text : List ℕ) (schema : Schema) (p : Parsed)
    → first text ≡ Ok p → ((plan : _) → planned schema p ≡ Ok plan → P (with_command p plan))
    → IfOk (compiled schema text) P
unfolding compiled
compiled_if P text schema p is all =
    subst (λ (r : Checked Parsed). IfOk (and_then r (λ p. and_then (planned schema p)
    (λ plan. Ok (with_command p plan)))) P) (sym is) (go (planned schema p) refl)
  where
    go : (r : Checked (List Name × (Command × Option Returning))) → planned schema p ≡ r
        → IfOk (and_then r (λ plan. Ok (with_command p plan))) P
    go (Ok plan) same = all plan same
    go (Err e) same = tt

-- the formats in which a text wants the time, and where its parameters end
abbrev pub formats_at : Schema → Parsed → List Name
formats_at schema p = timed schema p.formats p.statement

abbrev pub base_at : Schema → Parsed → ℕ
base_at schema p = small p.names + small (formats_at schema p)

-- what follows of the command of a text that shows no rows follows of what the text is planned as
pub planned_if : (P : Compiled → Type 0) (schema : Schema) (p : Parsed)
    (plan : List Name × (Command × Option Returning)) → planned schema p ≡ Ok plan
    → returning schema (base_at schema p) p.statement ≡ Ok None
    → ((c : Command) → command schema p.formats (base_at schema p) p.statement ≡ Ok c
    → P (with_command p (formats_at schema p, (c, None)))) → P (with_command p plan)
unfolding planned meaning
planned_if P schema p plan same none all =
    go (command schema p.formats (base_at schema p) p.statement) refl (rw none at same)
  where
    go : (r : Checked Command) → command schema p.formats (base_at schema p) p.statement ≡ r
        → and_then (and_then r (λ c. Ok (c, None))) (λ found. Ok (formats_at schema p, found))
        ≡ Ok plan → P (with_command p plan)
    go (Ok c) is done =
        let planned_so : (formats_at schema p, (c, None)) ≡ plan = cc in
        subst (λ plan. P (with_command p plan)) planned_so (all c is)
    go (Err e) is done = absurd (cc)

-- a text of a kind is parsed to a statement of it
pub of_kind : (kind : Statement → Bool) (r : Checked Parsed) → is_of_kind kind r ≡ true
    → (p : Parsed) × (r ≡ Ok p) × (kind p.statement ≡ true)
of_kind kind (Ok p) is = (p, refl, is)
of_kind kind (Err e) is = absurd (cc)
