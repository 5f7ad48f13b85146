-- What kind of statement a text is, whatever tables there are.
use Rattle.std.specs.Prelude.{◌≡◌, ℕ, Bool, true, false, not, ◌==◌, List, length, Ok, Err}
use Rattle.sqlite_ast.specs.declared.Statement.{Statement}
use Rattle.sqlite_ast.specs.declared.Statement.TheVariants as written
use Rattle.sqlite_syntax.specs.declared.statement.Parsed.{Parsed}
use Rattle.sqlite_resolve.specs.Compile.{first}
use Rattle.sqlite_resolve.specs.Lowering.{Checked}

-- a query
abbrev pub is_query : Statement → Bool
is_query (written.Select s) = true
is_query _ = false

-- a statement that adds, changes or takes away rows of a table, and shows none of them
abbrev pub is_write : Statement → Bool
is_write (written.Insert how name columns rows clauses shown) = length shown == 0
is_write (written.Update name sets test shown) = length shown == 0
is_write (written.Delete name test shown) = length shown == 0
is_write _ = false

-- a statement that makes a table, and is refused where there is one of its name
abbrev pub is_making : Statement → Bool
is_making (written.CreateTable def) = not def.if_missing
is_making _ = false

-- the text is of such a kind
abbrev pub is_of_kind : (Statement → Bool) → Checked Parsed → Bool
is_of_kind kind (Ok p) = kind p.statement
is_of_kind kind (Err e) = false

-- and does not read the time
abbrev pub is_timeless : Checked Parsed → Bool
is_timeless (Ok p) = length p.formats == 0
is_timeless (Err e) = false

-- the text is a query that does not read the time
abbrev pub IsQuery : List ℕ → Type 0
IsQuery text = (is_of_kind is_query (first text) ≡ true) × (is_timeless (first text) ≡ true)

-- the text writes rows
abbrev pub WritesRows : List ℕ → Type 0
WritesRows text = is_of_kind is_write (first text) ≡ true
