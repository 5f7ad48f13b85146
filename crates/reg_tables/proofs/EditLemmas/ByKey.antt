-- What a DELETE or an UPDATE of the rows with given values does to a table.
use Rattle.std.proofs.Common.{◌≡◌, ℕ, List, [], ◌∷◌, map, Bool, ◌&&◌, slice_get, Some, Ok}
use Rattle.std.proofs.Common.{refl, ap, subst, ◌∙◌}
use Rattle.std.specs.List.{list_all}
use Rattle.sqlite.specs.declared.types.Value.{Value}
use Rattle.sqlite.specs.Effect.{Database}
use Rattle.sqlite.specs.Order.{Row, column}
use Rattle.sqlite.specs.State.{State, Executes}
use Rattle.sqlite.specs.Table.{Table}
use Rattle.sqlite.specs.Term.{Term, col}
use Rattle.sqlite_rules.proofs.ListLemmas.{all_has, has_got}
use Rattle.reg_tables.specs.Schema.{office_schema}
use Rattle.reg_tables.specs.Selecting.{passes, shows, equals}
use Rattle.reg_tables.specs.Values.{same_value}
use Rattle.reg_tables.specs.Editing.{AreKeyed, IsOffice, LosesRows, AltersRows, has_all}
use Rattle.reg_tables.proofs.ValueLemmas.{passes_equals}
use Rattle.reg_tables.proofs.EditLemmas.Deleting.{Deletes, deletes}
use Rattle.reg_tables.proofs.EditLemmas.Changing.{Changes, changes}

-- the places of columns, with the values that they are to have
abbrev pub cells : List (ℕ × ℕ) → Row → List (ℕ × Value)
cells pairs params = map (λ p. (p.0, column params p.1)) pairs

cells_equal : (pairs : List (ℕ × ℕ)) (params row : Row)
    → list_all (λ p. same_value (column row p.0) (column params p.1)) pairs
    ≡ has_all (cells pairs params) row
cells_equal [] params row = refl
cells_equal (p ∷ pairs) params row =
    ap (λ b. same_value (column row p.0) (column params p.1) && b) (cells_equal pairs params row)

-- a row passes where it has the values
passes_with : (pairs : List (ℕ × ℕ)) (params row : Row)
    → passes (equals pairs) params row ≡ has_all (cells pairs params) row
passes_with pairs params row = passes_equals pairs params row ∙ cells_equal pairs params row

keyed_at : (db : Database) (at : ℕ) (table : Table) → IsOffice db
    → slice_get office_schema.tables at ≡ Some table → AreKeyed (db.trees table.tree)
keyed_at db at table office slot =
    all_has (λ (t : Table). AreKeyed (db.trees t.tree)) office_schema.tables table office.tables
    (has_got office_schema.tables at table slot)

pub deleted_with : (sql : List ℕ) (at : ℕ) (table : Table) (pairs : List (ℕ × ℕ)) (params : Row)
    (old new : State) (count : ℕ) → Deletes sql at table (equals pairs) → IsOffice old.now
    → Executes sql params old new (Ok count)
    → LosesRows table.tree (has_all (cells pairs params)) old.now new.now
deleted_with sql at table pairs params old new count a office h =
    subst (λ (goes : Row → Bool). LosesRows table.tree goes old.now new.now)
    (λ i row. passes_with pairs params row i)
    (deletes sql at table (equals pairs) params old new count a office.schema
    (keyed_at old.now at table office a.slot) h)

pub changed_with : (sql : List ℕ) (at : ℕ) (table : Table) (pairs : List (ℕ × ℕ))
    (project : List Term) (params : Row) (old new : State) (count : ℕ)
    → Changes sql at table (equals pairs) project params → IsOffice old.now
    → Executes sql params old new (Ok count)
    → AltersRows table.tree (has_all (cells pairs params)) (shows (col 1 0 ∷ project) params)
    old.now new.now
changed_with sql at table pairs project params old new count a office h =
    subst (λ (alters : Row → Bool). AltersRows table.tree alters (shows (col 1 0 ∷ project) params)
    old.now new.now) (λ i row. passes_with pairs params row i)
    (changes sql at table (equals pairs) project params old new count a office.schema office.sound
    (keyed_at old.now at table office a.slot) h)
