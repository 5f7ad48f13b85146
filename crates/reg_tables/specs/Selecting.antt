-- What a SELECT over tables of an office answers.
use Rattle.std.specs.Prelude.{◌++◌, take, ◌≡◌, ℕ, pos, negsuc, Bool, false, List, [], ◌∷◌, map, None}
use Rattle.std.specs.List.{list_all, range_with_len}
use Rattle.sqlite.specs.declared.types.Value.TheVariants.{Int}
use Rattle.sqlite.specs.Collation.TheVariants.{Binary}
use Rattle.sqlite.specs.Order.{Row, column}
use Rattle.sqlite.specs.Term.{Term, lit, col, op2, holds, eval_all}
use Rattle.sqlite.specs.Schema.{Schema}
use Rattle.sqlite.specs.Table.{Table}
use Rattle.sqlite_schema.specs.declared.schema.Index.{Index}
use Rattle.sqlite.specs.Query.{Query, Join, inner, end}
use Rattle.sqlite.specs.Command.TheVariants.{Select}
use Rattle.sqlite.specs.Listing.{understood, reads_listing}
use Rattle.sqlite.proofs.Callers.{command_of}
use Rattle.sqlite_value.specs.Keys.{ascending}
use Rattle.sqlite_value.specs.declared.keys.Key.{Key}
use Rattle.sqlite_sql.specs.declared.ops.BinaryOp.TheVariants.{Compare}
use Rattle.sqlite_sql.specs.declared.ops.CompareOp.TheVariants.{Eq}
use Rattle.reg_tables.specs.Kinds.{IsQuery}
use Rattle.reg_tables.specs.Schema.{office_schema}

-- the query over these tables, with these tests, columns and keys of its order
abbrev pub query_over : Join → List Term → List Term → List (Term × Key) → Query
query_over from tests project order = record {
  from = from;
  filter = tests;
  group = None;
  project = project;
  distinct = false;
  collations = [];
  order = order;
  limit = lit (Int (negsuc 0));
  offset = lit (Int (pos 0));
}

-- the query on the table in this tree
abbrev pub select_from : ℕ → List Term → List Term → List (Term × Key) → Query
select_from t tests project order = query_over (inner t end) tests project order

-- whether a row passes the WHERE, with these parameters
abbrev pub passes : List Term → Row → Row → Bool
passes tests params row = list_all (holds (params ∷ row ∷ [])) tests

-- what is shown of a row
abbrev pub shows : List Term → Row → Row → Row
shows project params row = eval_all project (params ∷ row ∷ [])

-- a schema whose first tables are the office's first so many
abbrev pub beginning : ℕ → List Table → List Index → Schema
beginning n more indexes = record {
  tables = take n office_schema.tables ++ more;
  indexes = indexes;
  views = [];
}

-- the first so many tables are the office's, whatever follows, and there is no view
pub record BeginsWith (n : ℕ) (schema : Schema) : Type 0 where
  pub tables : take n schema.tables ≡ take n office_schema.tables
  pub views : schema.views ≡ []

-- the text is this query wherever those tables come first, whatever others there are
pub record IsTextOf (n : ℕ) (sql : List ℕ) (q : Query) : Type 0 where
  pub names : List (List ℕ)
  pub is : (more : List Table) (indexes : List Index)
      → command_of (understood (beginning n more indexes) sql)
      ≡ Select (record { lets = []; body = q }) names
  pub plain : IsQuery sql
  pub unlisted : (more : List Table) (indexes : List Index)
      → reads_listing (beginning n more indexes) sql ≡ false

-- the text is a query over one table of an office, of which the first so many suffice
abbrev pub SelectsFrom : ℕ → List ℕ → ℕ → List Term → List Term → List (Term × Key) → Type 0
SelectsFrom n sql t tests project order = IsTextOf n sql (select_from t tests project order)

-- each of these columns equals a parameter: pairs of their places
abbrev pub equals : List (ℕ × ℕ) → List Term
equals pairs = map (λ p. op2 (Compare Eq Binary) (col 1 p.0) (col 0 p.1)) pairs

-- the columns of a table, in order
abbrev pub columns_of : ℕ → List Term
columns_of n = map (col 1) (range_with_len 1 n)

-- and their names
abbrev pub column_names : Table → List (List ℕ)
column_names table = map (λ c. c.name) table.columns

-- in the order of the columns at these places
abbrev pub ordered_by : List ℕ → List (Term × Key)
ordered_by places = map (λ c. (col 1 c, ascending Binary)) places

-- a row of a table without its rowid
abbrev pub stored : ℕ → Row → Row
stored n row = map (column row) (range_with_len 1 n)
