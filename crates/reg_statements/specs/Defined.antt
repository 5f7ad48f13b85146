-- What a table's definition owes, and what its statements do.
use Rattle.std.specs.Prelude.{◌≡◌, ℕ, ◌+◌, Bool, true, List, [], ◌∷◌, ◌++◌, map, take, drop, length}
use Rattle.std.specs.Prelude.{Option, Some, None, option_map, option_to_list}
use Rattle.std.specs.FinMap.{entries, get, insert, remove}
use Rattle.std.specs.Ordering.{eq_by_cmp}
use Rattle.sqlite.specs.Cast.{cast_all}
use Rattle.sqlite.specs.Order.{Row}
use Rattle.sqlite.specs.Term.{Term, col}
use Rattle.sqlite.specs.Tree.{Trees}
use Rattle.sqlite.specs.declared.types.Value.{Value}
use Rattle.sqlite_schema.specs.declared.schema.Index.{Index}
use Rattle.sqlite_value.specs.declared.keys.Key.{Key}
use Rattle.reg_maps.specs.Maps.{only_if, select}
use Rattle.reg_maps.specs.RowMaps.{IsTable, changed_where, held_in}
use Rattle.reg_maps.proofs.MapLaws.{IsKeyOrder}
use Rattle.reg_tables.proofs.EditLemmas.Changing as changing
use Rattle.reg_tables.proofs.EditLemmas.ByKey.{cells}
use Rattle.reg_tables.proofs.EditLemmas.Deleting as deleting
use Rattle.reg_tables.proofs.EditLemmas.Putting as putting
use Rattle.reg_tables.proofs.GivenRows.{AddsGiven}
use Rattle.reg_tables.specs.Editing.{front, has_all}
use Rattle.reg_tables.specs.Kinds.{WritesRows}
use Rattle.reg_tables.specs.Selecting.{SelectsFrom, columns_of, equals, passes, shows, stored}
use Rattle.reg_tables.specs.Version.{newest}
use Rattle.reg_statements.specs.Content.{AreTied, AreWhole, parts_in}
use Rattle.reg_statements.specs.Parts.{KeyDef, Parts, TableDef, cells_of, pairs, same_cells}
use Rattle.reg_statements.specs.Tables.{put_tree, tables_in}

-- the order is one of keys, and SQL finds two keys the same where it does
pub record IsKey {K : Type 0} (key : KeyDef K) : Type 0 where
  pub keys : IsKeyOrder key.order
  pub ties : (a b : K) → same_cells (key.cells a) (key.cells b) ≡ eq_by_cmp key.order a b

-- what is written reads back, and only that reads; the key comes first; and the table is the part
-- of the office that it is said to be
pub record IsDefined {T K X : Type 0} (d : TableDef T K X) : Type 0 where
  pub key : IsKey d.key
  pub at : d.at ≡ (λ row. option_map d.pair (d.read (stored d.width row)))
  pub item : (t : T) → d.item (d.pair t).0 (d.pair t).1 ≡ t
  pub back : (t : T) → d.form t ≡ true → d.read (d.values t) ≡ Some t
  pub exact : (row : Row) (t : T) → d.read (stored d.width row) ≡ Some t
      → stored d.width row ≡ d.values t
  pub whole : (id : Value) (t : T) → stored d.width (id ∷ d.values t) ≡ d.values t
  pub first : (t : T) → take d.key.width (d.values t) ≡ d.key.cells (d.pair t).0
  pub tests : (row : Row) (k : K) → has_all (cells_of d.key.width (d.key.cells k)) row
      ≡ same_cells (take d.key.width (stored d.width row)) (d.key.cells k)
  pub rows : (trees : Trees) → d.rows (tables_in trees) ≡ trees d.table.tree
  pub part : (trees : Trees)
      → d.part (parts_in (tables_in trees)) ≡ held_in d.at (trees d.table.tree)
  pub put : (trees : Trees) (rows : List Row)
      → parts_in (tables_in (put_tree d.table.tree rows trees))
      ≡ d.put (held_in d.at rows) (parts_in (tables_in trees))
  pub held : (trees : Trees) → AreWhole newest (tables_in trees)
      → IsTable d.key.order d.at (trees d.table.tree)
  pub kept : (trees : Trees) (rows : List Row) → IsTable d.key.order d.at rows
      → AreWhole newest (tables_in trees)
      → AreWhole newest (tables_in (put_tree d.table.tree rows trees))

-- what the rows of tables owe to one another is so after a change, where it was
abbrev pub KeepsTies : (Parts → Parts) → Parts → Type 0
KeepsTies changed p = AreTied p → AreTied (changed p)

-- ---- One row

-- no row has the key of this one
abbrev pub HasFreeKey : {T K X : Type 0} → TableDef T K X → T → Parts → Type 0
HasFreeKey d t p = get (d.part p) (d.pair t).0 ≡ None

-- with this row at its key, and with none at a key
abbrev pub with_row : {T K X : Type 0} → TableDef T K X → T → Parts → Parts
with_row d t p = d.put (insert (d.part p) (d.pair t).0 (d.pair t).1) p

abbrev pub without_row : {T K X : Type 0} → TableDef T K X → K → Parts → Parts
without_row d k p = d.put (remove (d.part p) k) p

-- a row of the table with the columns of this one in the place of those after the key
abbrev pub with_columns : {T K X : Type 0} → TableDef T K X → T → Row → Row
with_columns d t row = front (d.key.width + 1) row ++ drop d.key.width (d.values t)

-- ---- Rows that pass a test

-- the rows whose keys and values pass, in the order of their keys
abbrev pub rows_where : {T K X : Type 0} → TableDef T K X → (K → X → Bool) → Parts → List T
rows_where d test p =
    map (λ e. d.item e.0 e.1) (entries (select (λ k x. only_if (test k x) x) (d.part p)))

-- the values of all that pass can be changed so
abbrev pub AllCan : {T K X : Type 0} → TableDef T K X → (K → X → Bool) → (X → Bool) → Parts → Type 0
AllCan {K = K} {X = X} d test can p =
    (k : K) (x : X) → get (d.part p) k ≡ Some x → test k x ≡ true → can x ≡ true

-- with the values of all that pass changed
abbrev pub with_changed : {T K X : Type 0} → TableDef T K X → (K → X → Bool) → (X → X) → Parts
    → Parts
with_changed d test f p = d.put (changed_where test f (d.part p)) p

-- ---- Statements

-- the text is a query of the rows of the table whose keys and values pass
pub record Chooses {T K X : Type 0} (d : TableDef T K X) (sql : List ℕ) (params : Row)
    (p : K → X → Bool) : Type 0 where
  pub tests : List Term
  pub order : List (Term × Key)
  pub selects : SelectsFrom (d.slot + 1) sql d.table.tree tests (columns_of d.width) order
  pub agree : (row : Row) (t : T) → d.read (stored d.width row) ≡ Some t
      → passes tests params row ≡ p (d.pair t).0 (d.pair t).1

-- a query of the row of a key
abbrev pub ChoosesRowOf : {T K X : Type 0} → TableDef T K X → List ℕ → Row → K → Type 0
ChoosesRowOf d sql params k = Chooses d sql params (λ key x. eq_by_cmp d.key.order key k)

-- what a query of one row found of the rows that it is for
pub record IsFound {T K X : Type 0} (d : TableDef T K X) (sql : List ℕ) (params : Row)
    (found : Option T) (p : Parts) : Type 0 where
  pub row : (test : K → X → Bool) → Chooses d sql params test
      → option_to_list found ≡ rows_where d test p
  pub at_key : (k : K) → ChoosesRowOf d sql params k → found ≡ option_map (d.item k) (get (d.part p) k)

-- a query of all rows of the table
pub record ShowsAll {T K X : Type 0} (d : TableDef T K X) (sql : List ℕ) : Type 0 where
  pub order : List (Term × Key)
  pub selects : SelectsFrom (d.slot + 1) sql d.table.tree [] (columns_of d.width) order

-- an INSERT of the row of what is written, which is stored as it is
pub record InsertsRows {T K X : Type 0} (d : TableDef T K X) (sql : List ℕ) : Type 0 where
  pub given : AddsGiven sql d.slot d.table
  pub long : (t : T) → length (d.values t) ≡ length d.table.columns
  pub kept : (t : T) → cast_all d.table.columns (d.values t) ≡ d.values t

-- an INSERT of the row of what is written, or where a row has its key an UPDATE of all columns
-- after those of the key
pub record Puts {T K X : Type 0} (d : TableDef T K X) (sql : List ℕ) : Type 0 where
  pub writes : WritesRows sql
  pub terms : List Term
  pub index : Index
  pub project : List Term
  pub puts : (t : T) → putting.Puts sql d.slot d.table terms index project (d.values t)
      (cells_of d.key.width (d.key.cells (d.pair t).0)) (with_columns d t)
  pub keeps : (row : Row) (t : T) → stored d.width (with_columns d t row)
      ≡ take d.key.width (stored d.width row) ++ drop d.key.width (d.values t)

-- an UPDATE of some columns of the rows whose keys and values pass: each that can be changed so is
-- then a row of its key and of another value
pub record Changes {T K X : Type 0} (d : TableDef T K X) (sql : List ℕ) (params : Row)
    (p : K → X → Bool) (can : X → Bool) (f : X → X) : Type 0 where
  pub at : List (ℕ × ℕ)
  pub terms : List Term
  pub changes : changing.Changes sql d.slot d.table (equals at) terms params
  pub agree : (row : Row) (t : T) → d.read (stored d.width row) ≡ Some t
      → has_all (cells at params) row ≡ p (d.pair t).0 (d.pair t).1
  pub becomes : (row : Row) (t : T) → d.read (stored d.width row) ≡ Some t
      → can (d.pair t).1 ≡ true
      → option_map d.pair (d.read (stored d.width (shows (col 1 0 ∷ terms) params row)))
      ≡ Some ((d.pair t).0, f (d.pair t).1)

-- a DELETE of the row of a key
pub record TakesRows {T K X : Type 0} (d : TableDef T K X) (sql : List ℕ) : Type 0 where
  pub takes : deleting.Deletes sql d.slot d.table (equals (pairs d.key.width))
