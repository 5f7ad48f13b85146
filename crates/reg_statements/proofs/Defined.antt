-- What a table holds after its rows are read, added, changed and taken away, whatever table it is.
use Rattle.std.proofs.Common.{◌≡◌, inl, inr, ℕ, ◌+◌, Bool, true, not, ◌&&◌, List, [], ◌∷◌, ◌++◌}
use Rattle.std.proofs.Common.{map, filter, take, drop, refl, sym, ap, subst, ◌∙◌}
use Rattle.std.proofs.Common.{Option, Some, None, IsSome, option_map, option_to_list, IsPermutation}
use Rattle.std.specs.FinMap.{FinMap, get, insert, remove, entries}
use Rattle.std.specs.Cmp.{eq_by_cmp_equiv}
use Rattle.std.specs.List.{list_all}
use Rattle.std.specs.Ordering.{eq_by_cmp}
use Rattle.std.specs.declared.cmp.Ordering.{Ordering}
use Rattle.std.proofs.lemmas.List.{take-append-drop}
use Rattle.std.proofs.lemmas.List.Sorted.{IsPermutation-refl}
use Rattle.sqlite.specs.Effect.{Database}
use Rattle.sqlite.specs.Order.{Row, column}
use Rattle.sqlite.specs.State.{State, Shown}
use Rattle.sqlite.specs.Term.{Term}
use Rattle.sqlite_rules.specs.Lists.{Has}
use Rattle.sqlite_rules.proofs.ListLemmas.{has_filtered}
use Rattle.sqlite_value.specs.declared.keys.Key.{Key}
use Rattle.reg_maps.specs.Maps.{keyed, only_if, select}
use Rattle.reg_maps.specs.RowMaps.{IsTable, PassesAt, changed_where, held_in}
use Rattle.reg_maps.proofs.MapLaws.{tied}
use Rattle.reg_maps.proofs.RowMaps.Alone.{alone_at}
use Rattle.reg_maps.proofs.RowMaps.Items as items
use Rattle.reg_maps.proofs.RowMaps.Loads.{entries_at}
use Rattle.reg_maps.proofs.RowMaps.Lists.{filter_true, shown_rows}
use Rattle.reg_maps.proofs.RowMaps.Tables as tables
use Rattle.reg_tables.specs.Editing.{AltersRows, IsOffice, LosesRows, has_all}
use Rattle.reg_tables.specs.Inserting.{AddedRow}
use Rattle.reg_tables.specs.Putting.{PutRow}
use Rattle.reg_tables.specs.Selecting.{BeginsWith, SelectsFrom, columns_of, equals, passes, shows, stored}
use Rattle.reg_tables.specs.Values.{same_value}
use Rattle.reg_tables.specs.Version.{newest}
use Rattle.reg_tables.proofs.EditLemmas.Tables.{office_after_change, office_after_loss}
use Rattle.reg_tables.proofs.SelectLemmas.{office_begins, selected, shows_columns}
use Rattle.reg_tables.proofs.ValueLemmas.{passes_equals}
use Rattle.reg_statements.specs.Content.{AreTied, AreWhole, IsStored, parts_in, parts_of}
use Rattle.reg_statements.specs.Defined.{Chooses, ChoosesRowOf, ShowsAll, IsDefined, IsFound, HasFreeKey, KeepsTies, rows_where, with_changed, with_row, without_row}
use Rattle.reg_statements.specs.Loading.{IsAscending, ReadAs}
use Rattle.reg_statements.specs.Parts.{Parts, TableDef, cells_of, pairs, same_cells}
use Rattle.reg_statements.specs.Tables.{OthersStay}
use Rattle.reg_statements.proofs.Neighbours.{strict}
use Rattle.reg_statements.proofs.OneTable.{only_one}
use Rattle.reg_statements.proofs.Present.{none_held, some_held}

-- ---- Tests

-- a row passes where it has the values
pub passes_cells : (ps : List (ℕ × ℕ)) (params row : Row) → passes (equals ps) params row
    ≡ has_all (map (λ p. (p.0, column params p.1)) ps) row
passes_cells ps params row = passes_equals ps params row ∙ go ps
  where
    go : (ps : List (ℕ × ℕ))
        → list_all (λ p. same_value (column row p.0) (column params p.1)) ps
        ≡ has_all (map (λ p. (p.0, column params p.1)) ps) row
    go [] = refl
    go (p ∷ ps) = ap (λ b. same_value (column row p.0) (column params p.1) && b) (go ps)

-- items are what their keys have
in_place : {T K X : Type 0} (pair : T → K × X) (item : K → X → T)
    (back : (t : T) → item (pair t).0 (pair t).1 ≡ t) (ts : List T)
    → ts ≡ map (λ e. item e.0 e.1) (map pair ts)
in_place pair item back [] = refl
in_place pair item back (t ∷ ts) = λ i. sym (back t) i ∷ in_place pair item back ts i

module _ {T K X : Type 0} (d : TableDef T K X) (l : IsDefined d) where
  abbrev order : K → K → Ordering
  order = d.key.order

  abbrev reader : Row → Option (K × X)
  reader row = option_map d.pair (d.read (stored d.width row))

  -- the first columns of a row are the cells of its key
  pub key_has : (k : K) (row : Row) (t : T) → d.read (stored d.width row) ≡ Some t
      → has_all (cells_of d.key.width (d.key.cells k)) row ≡ eq_by_cmp order (d.pair t).0 k
  key_has k row t is =
      l.tests row k
      ∙ ap (λ (cs : Row). same_cells (take d.key.width cs) (d.key.cells k)) (l.exact row t is)
      ∙ ap (λ (cs : Row). same_cells cs (d.key.cells k)) (l.first t)
      ∙ l.key.ties (d.pair t).0 k

  -- each row reads back, and no two have one key
  pub whole_rows : (db : Database) → IsStored db → IsTable order d.at (db.trees d.table.tree)
  whole_rows db was = l.held db.trees was.kept.whole

  -- ---- What a query chooses

  pub by_key : (sql : List ℕ) (up : List (Term × Key)) (k : K)
      → SelectsFrom (d.slot + 1) sql d.table.tree (equals (pairs d.key.width)) (columns_of d.width) up
      → ChoosesRowOf d sql (d.key.cells k) k
  by_key sql up k selects = record {
    tests = equals (pairs d.key.width);
    order = up;
    selects = selects;
    agree = λ row t is.
        passes_cells (pairs d.key.width) (d.key.cells k) row ∙ key_has k row t is;
  }

  -- by the first n columns
  pub by_first : (sql : List ℕ) (up : List (Term × Key)) (n : ℕ) (params : Row)
      (p : K → X → Bool)
      → ((row : Row) → has_all (cells_of n params) row
      ≡ same_cells (take n (stored d.width row)) params)
      → ((t : T) → same_cells (take n (d.values t)) params ≡ p (d.pair t).0 (d.pair t).1)
      → SelectsFrom (d.slot + 1) sql d.table.tree (equals (pairs n)) (columns_of d.width) up
      → Chooses d sql params p
  by_first sql up n params p tests same selects = record {
    tests = equals (pairs n);
    order = up;
    selects = selects;
    agree = λ row t is.
        passes_cells (pairs n) params row ∙ tests row
        ∙ ap (λ (cs : Row). same_cells (take n cs) params) (l.exact row t is) ∙ same t;
  }

  pub by_all : (sql : List ℕ) (up : List (Term × Key))
      → SelectsFrom (d.slot + 1) sql d.table.tree [] (columns_of d.width) up
      → Chooses d sql [] (λ k x. true)
  by_all sql up selects =
      record { tests = []; order = up; selects = selects; agree = λ row t is. refl }

  module _ (sql : List ℕ) (params : Row) (p : K → X → Bool) (chooses : Chooses d sql params p)
      (old new : State) (shown : List Row) (was : IsStored old.now)
      (answer : Shown sql params old new shown) where
    taken : (ts : List T) → ReadAs d.read shown ts
        → (rows : List Row)
        × IsPermutation (filter (passes chooses.tests params) (old.now.trees d.table.tree)) rows
        × (map (λ row. d.read (stored d.width row)) rows ≡ map Some ts)
    taken ts reads =
        let found = selected sql d.table.tree chooses.tests (columns_of d.width) chooses.order params old new shown chooses.selects (office_begins (d.slot + 1) was.office.schema) answer in
        let same : shows (columns_of d.width) params ≡ stored d.width = λ i row. shows_columns d.width params row i in
        let moved = subst (λ f. IsPermutation (map f (filter (passes chooses.tests params) (old.now.trees d.table.tree))) shown) same found in
        shown_rows (stored d.width) d.read ts moved reads

    -- the rows that were chosen, in the order of their keys
    pub rows_listed : (ts : List T) → ReadAs d.read shown ts
        → IsAscending (λ a b. order (d.pair a).0 (d.pair b).0) ts
        → ts ≡ rows_where d p (parts_of old.now)
    rows_listed ts reads up =
        let rows = old.now.trees d.table.tree in
        let took = taken ts reads in
        let listed = subst (λ at. IsTable order at rows
        → ts ≡ map (λ e. d.item e.0 e.1)
        (entries (select (λ k x. only_if (p k x) x) (held_in {R = order} at rows)))) (sym l.at)
        (λ table.
        in_place d.pair d.item l.item ts ∙ ap (map (λ (e : K × X). d.item e.0 e.1))
        (items.listed_items l.key.keys d.pair (λ row. d.read (stored d.width row))
        (passes chooses.tests params) p ts table chooses.agree took.1 took.2
        (strict l.key.keys (λ t. (d.pair t).0) ts up))) in
        listed (whole_rows old.now was)
        ∙ ap (λ m. map (λ (e : K × X). d.item e.0 e.1) (entries (select (λ k x. only_if (p k x) x) m)))
        (sym (l.part old.now.trees))

  -- what a row of a key is, where the query is of that
  found_at : (k : K) (p : Parts) (found : Option T)
      → option_to_list found ≡ rows_where d (λ key x. eq_by_cmp order key k) p
      → found ≡ option_map (d.item k) (get (d.part p) k)
  found_at k p found is =
      only found (get (d.part p) k)
      (is ∙ ap (map (λ (e : K × X). d.item e.0 e.1)) (entries_at l.key.keys (d.part p) k))
    where
      only : (found : Option T) (held : Option X)
          → option_to_list found
          ≡ map (λ (e : K × X). d.item e.0 e.1) (option_to_list (keyed k held))
          → found ≡ option_map (d.item k) held
      only None None is = refl
      only None (Some x) is = absurd (cc)
      only (Some t) None is = absurd (cc)
      only (Some t) (Some x) is = cc

  -- at most one row is in any order
  one_ascends : (found : Option T)
      → IsAscending (λ a b. order (d.pair a).0 (d.pair b).0) (option_to_list found)
  one_ascends None = tt
  one_ascends (Some t) = tt

  -- the one row that was chosen, or none
  pub row_found : (sql : List ℕ) (params : Row) (old new : State) (shown : List Row)
      (found : Option T) → IsStored old.now → Shown sql params old new shown
      → ReadAs d.read shown (option_to_list found)
      → IsFound d sql params found (parts_of old.now)
  row_found sql params old new shown found was answer reads =
      let row = λ (test : K → X → Bool) (chooses : Chooses d sql params test).
      rows_listed sql params test chooses old new shown was answer (option_to_list found) reads
      (one_ascends found) in
      record {
        row = row;
        at_key = λ k finds. found_at k (parts_of old.now) found (row _ finds);
      }

  -- where a query of the whole table shows its rows in the order of their keys, no two have one
  pub all_in_order : (sql : List ℕ) (all : ShowsAll d sql) (old new : State) (shown : List Row)
      (ts : List T) → BeginsWith (d.slot + 1) old.now.schema → Shown sql [] old new shown
      → ReadAs d.read shown ts → IsAscending (λ a b. order (d.pair a).0 (d.pair b).0) ts
      → IsTable order d.at (old.now.trees d.table.tree)
      × (ts ≡ map (λ e. d.item e.0 e.1)
      (entries (held_in {R = order} d.at (old.now.trees d.table.tree))))
  all_in_order sql all old new shown ts begins answer reads up =
      let rows = old.now.trees d.table.tree in
      let found = selected sql d.table.tree [] (columns_of d.width) all.order [] old new shown
      all.selects begins answer in
      let same : shows (columns_of d.width) [] ≡ stored d.width = λ i row.
      shows_columns d.width [] row i in
      let moved = subst (λ rs. IsPermutation (map (stored d.width) rs) shown) (filter_true rows)
      (subst (λ f. IsPermutation (map f (filter (λ row. true) rows)) shown) same found) in
      let took = shown_rows (stored d.width) d.read ts moved reads in
      let it = items.is_item_table l.key.keys d.pair (λ row. d.read (stored d.width row)) ts
      took.1 took.2 (strict l.key.keys (λ t. (d.pair t).0) ts up) in
      subst (λ at. IsTable order at rows
      × (ts ≡ map (λ e. d.item e.0 e.1) (entries (held_in {R = order} at rows)))) (sym l.at) (
        it.0,
        in_place d.pair d.item l.item ts
            ∙ ap (map (λ (e : K × X). d.item e.0 e.1)) (sym it.1),
      )

  -- ---- What a write leaves

  -- where the rows of the table hold another map, the office is another in that part alone
  pub turned : (old new : Database) (m : FinMap d.key.order X) → IsStored old → IsOffice new
      → KeepsTies (d.put m) (parts_of old) → OthersStay d.table.tree old.trees new.trees
      → IsTable order d.at (new.trees d.table.tree)
      × (held_in {R = order} d.at (new.trees d.table.tree) ≡ m)
      → IsStored new × (parts_of new ≡ d.put m (parts_of old))
  turned old new m was office ties rest held =
      let rows = new.trees d.table.tree in
      let same = only_one d.table.tree old.trees new.trees rest in
      let parts : parts_of new ≡ d.put m (parts_of old) =
      ap parts_in same ∙ l.put old.trees rows ∙ ap (λ part. d.put part (parts_of old)) held.1 in (
        record {
          office = office;
          kept = record {
            whole = subst (AreWhole newest) (sym same) (l.kept old.trees rows held.0 was.kept.whole);
            tied = subst AreTied (sym parts) (ties was.kept.tied);
          };
        },
        parts,
      )

  -- what is written reads as its key and its value
  reads_as : (t : T) (row : Row) → d.form t ≡ true → stored d.width row ≡ d.values t
      → d.at row ≡ Some (d.pair t)
  reads_as t row form is =
      ap (λ (at : Row → Option (K × X)). at row) l.at
      ∙ ap (λ cs. option_map d.pair (d.read cs)) is ∙ ap (option_map d.pair) (l.back t form)

  -- one row more
  pub row_added : (t : T) (old new : Database) → d.form t ≡ true
      → AddedRow d.table.tree (d.values t) old new × IsOffice new → IsStored old
      → HasFreeKey d t (parts_of old) → KeepsTies (with_row d t) (parts_of old)
      → IsStored new × (parts_of new ≡ with_row d t (parts_of old))
  row_added t old new form row was none ties =
      let is = l.part old.trees in
      let held = tables.added l.key.keys (whole_rows old was)
      (reads_as t (row.0.id ∷ d.values t) form (l.whole row.0.id t))
      (ap (λ m. get m (d.pair t).0) (sym is) ∙ none) row.0.rows in
      turned old new _ was row.1 ties row.0.others
      (held.0, held.1 ∙ ap (λ m. insert m (d.pair t).0 (d.pair t).1) (sym is))

  -- the rows of a key pass
  pub key_passes : (k : K) → PassesAt order d.at (has_all (cells_of d.key.width (d.key.cells k))) k
  key_passes k = subst (λ at. PassesAt order at (has_all (cells_of d.key.width (d.key.cells k))) k)
      (sym l.at) (items.items_pass_at l.key.keys d.pair (λ row. d.read (stored d.width row))
      (has_all (cells_of d.key.width (d.key.cells k))) k (key_has k))

  -- the first columns of a row that reads at a key
  at_key : (row : Row) (k : K) (x : X) → d.at row ≡ Some (k, x)
      → take d.key.width (stored d.width row) ≡ d.key.cells k
  at_key row k x is =
      go (d.read (stored d.width row)) refl (ap (λ (at : Row → Option (K × X)). at row) (sym l.at) ∙ is)
    where
      go : (r : Option T) → d.read (stored d.width row) ≡ r → option_map d.pair r ≡ Some (k, x)
          → take d.key.width (stored d.width row) ≡ d.key.cells k
      go None was is = absurd (cc)
      go (Some t) was is =
          let same : d.pair t ≡ (k, x) = cc in
          ap (take d.key.width) (l.exact row t was) ∙ l.first t
          ∙ ap (λ (e : K × X). d.key.cells e.0) same

  -- a row with the cells of a key, in its first columns
  abbrev pub HasCells : Database → K → Type 0
  HasCells db k =
      (row : Row) × Has (db.trees d.table.tree) row
      × (take d.key.width (stored d.width row) ≡ d.key.cells k)

  -- where there is one, the key has a value
  pub is_there : (k : K) (db : Database) → IsStored db → HasCells db k
      → IsSome (get (d.part (parts_of db)) k)
  is_there k db was found =
      let passes = l.tests found.0 k ∙ ap (λ (cs : Row). same_cells cs (d.key.cells k)) found.2
      ∙ l.key.ties k k ∙ (eq_by_cmp_equiv l.key.keys.total).refl k in
      subst (λ m. IsSome (get m k)) (sym (l.part db.trees))
      (some_held l.key.keys (has_all (cells_of d.key.width (d.key.cells k))) k (key_passes k)
      (db.trees d.table.tree) (whole_rows db was) (found.0, found.1, passes))

  -- and where it has one, there is one
  pub row_there : (k : K) (db : Database) → IsStored db → IsSome (get (d.part (parts_of db)) k)
      → HasCells db k
  row_there k db was there =
      let test = has_all (cells_of d.key.width (d.key.cells k)) in
      let rows = db.trees d.table.tree in
      elim (alone_at l.key.keys rows test k (whole_rows db was) (key_passes k)) [
        | inl none ↦
            absurd (is_none _ (ap (λ m. get m k) (l.part db.trees) ∙ none.1) there)
        | inr one ↦
            let kept = has_filtered test rows one.row
            (subst (λ all. Has all one.row) (sym one.alone) (inl refl)) in
            (one.row, kept.0, at_key one.row k one.x one.reads)
      ]
    where
      is_none : (o : Option X) → o ≡ None → IsSome o → ⊥
      is_none None is some = cc
      is_none (Some x) is some = cc

  -- the row of a key is gone
  pub row_gone : (k : K) (old new : Database)
      → LosesRows d.table.tree (has_all (cells_of d.key.width (d.key.cells k))) old new
      → IsStored old → KeepsTies (without_row d k) (parts_of old)
      → IsStored new × (parts_of new ≡ without_row d k (parts_of old))
  row_gone k old new rows was ties =
      let test = has_all (cells_of d.key.width (d.key.cells k)) in
      let held = tables.removed l.key.keys test k (whole_rows old was) (key_passes k)
      (subst (IsPermutation (filter (λ row. not (test row)) (old.trees d.table.tree)))
      (sym rows.rows) (IsPermutation-refl _)) in
      turned old new _ was (office_after_loss _ _ old new was.office rows) ties rows.others
      (held.0, held.1 ∙ ap (λ m. remove m k) (sym (l.part old.trees)))

  -- the rows that pass are others, each of its key and of another value
  pub rows_changed : (test : Row → Bool) (put : Row → Row) (p : K → X → Bool) (f : X → X)
      (old new : Database)
      → ((row : Row) (t : T) → d.read (stored d.width row) ≡ Some t
      → test row ≡ p (d.pair t).0 (d.pair t).1)
      → ((row : Row) (t : T) → d.read (stored d.width row) ≡ Some t
      → get (d.part (parts_of old)) (d.pair t).0 ≡ Some (d.pair t).1
      → p (d.pair t).0 (d.pair t).1 ≡ true
      → reader (put row) ≡ Some ((d.pair t).0, f (d.pair t).1))
      → AltersRows d.table.tree test put old new
      → IsStored old → KeepsTies (with_changed d p f) (parts_of old)
      → IsStored new × (parts_of new ≡ with_changed d p f (parts_of old))
  rows_changed test put p f old new agree becomes rows was ties =
      let from = old.trees d.table.tree in
      let to = new.trees d.table.tree in
      let part : held_in {R = order} reader from ≡ d.part (parts_of old) =
      ap (λ at. held_in {R = order} at from) (sym l.at) ∙ sym (l.part old.trees) in
      let held = subst (λ at. IsTable order at from → IsTable order at to
      × (held_in {R = order} at to ≡ changed_where p f (held_in {R = order} at from))) (sym l.at)
      (λ table. tables.changed l.key.keys test put p f table
      (items.items_pass l.key.keys d.pair (λ row. d.read (stored d.width row)) test p agree)
      (λ row k x is here. each row k x is (subst (λ m. get m k ≡ Some x) part here)) rows.rows)
      (whole_rows old was) in
      turned old new _ was (office_after_change _ _ _ old new was.office rows) ties rows.others
      (held.0, held.1 ∙ ap (changed_where p f) (sym (l.part old.trees)))
    where
      each : (row : Row) (k : K) (x : X) → reader row ≡ Some (k, x)
          → get (d.part (parts_of old)) k ≡ Some x → p k x ≡ true
          → reader (put row) ≡ Some (k, f x)
      each row k x is = go (d.read (stored d.width row)) refl is
        where
          go : (r : Option T) → d.read (stored d.width row) ≡ r → option_map d.pair r ≡ Some (k, x)
              → get (d.part (parts_of old)) k ≡ Some x → p k x ≡ true
              → reader (put row) ≡ Some (k, f x)
          go None was is = absurd (cc)
          go (Some t) was is =
              let same : d.pair t ≡ (k, x) = cc in
              subst (λ (e : K × X). get (d.part (parts_of old)) e.0 ≡ Some e.1 → p e.0 e.1 ≡ true
              → reader (put row) ≡ Some (e.0, f e.1)) same (becomes row t was)

  -- a row with the key of this one, and its columns after the key, reads as this one
  replaced : (t other : T) (row to : Row) → d.form t ≡ true
      → d.read (stored d.width row) ≡ Some other → (d.pair other).0 ≡ (d.pair t).0
      → stored d.width to ≡ take d.key.width (stored d.width row) ++ drop d.key.width (d.values t)
      → reader to ≡ Some ((d.pair other).0, (d.pair t).1)
  replaced t other row to form is same keeps =
      let key = ap (take d.key.width) (l.exact row other is) ∙ l.first other
      ∙ ap d.key.cells same ∙ sym (l.first t) in
      let written : stored d.width to ≡ d.values t =
      keeps ∙ ap (λ (cs : Row). cs ++ drop d.key.width (d.values t)) key
      ∙ take-append-drop d.key.width (d.values t) in
      ap (λ cs. option_map d.pair (d.read cs)) written ∙ ap (option_map d.pair) (l.back t form)
      ∙ ap (λ k. Some (k, (d.pair t).1)) (sym same)

  -- the row of a key is this one, whether there was one or not
  pub row_put : (t : T) (by : Row → Row) (old new : Database) → d.form t ≡ true
      → ((row : Row) → stored d.width (by row)
      ≡ take d.key.width (stored d.width row) ++ drop d.key.width (d.values t))
      → PutRow d.table.tree (cells_of d.key.width (d.key.cells (d.pair t).0)) (d.values t) by
      old new
      → IsStored old → KeepsTies (with_row d t) (parts_of old)
      → IsStored new × (parts_of new ≡ with_row d t (parts_of old))
  row_put t by old new form keeps put was ties = elim put.put [
    | inl fresh ↦
        row_added t old new form (fresh.1, put.office) was
        (subst (λ m. get m k ≡ None) is (none_held l.key.keys test k (key_passes k) rows
        (whole_rows old was) fresh.0))
        ties
    | inr there ↦
        let here = subst (λ m. IsSome (get m k)) is (some_held l.key.keys test k (key_passes k)
        rows (whole_rows old was) there.0) in
        let same : with_changed d (λ key x. eq_by_cmp order key k) (λ x. (d.pair t).1)
        (parts_of old) ≡ with_row d t (parts_of old) =
        ap (λ m. d.put m (parts_of old))
        (tables.changed_to l.key.keys (d.part (parts_of old)) k (d.pair t).1 here) in
        let it = rows_changed test by (λ key x. eq_by_cmp order key k) (λ x. (d.pair t).1) old new
        (key_has k)
        (λ row other is held tie.
        replaced t other row (by row) form is (tied l.key.keys _ _ tie) (keeps row))
        there.1 was (λ tied. subst AreTied (sym same) (ties tied)) in
        (it.0, it.1 ∙ same)
  ]
    where
      k : K
      k = (d.pair t).0

      test : Row → Bool
      test = has_all (cells_of d.key.width (d.key.cells k))

      rows : List Row
      rows = old.trees d.table.tree

      is : held_in {R = order} d.at rows ≡ d.part (parts_of old)
      is = sym (l.part old.trees)
