-- What an INSERT of one row that updates the row with its key does to a table.
use Rattle.std.proofs.Common.{◌≡◌, ◌⊎◌, inl, inr, ℕ, ℤ, List, [], ◌∷◌, ◌++◌, length, ◌+◌, ◌/◌, ◌&&◌}
use Rattle.std.proofs.Common.{slice_get, Bool, true, false, if◌then◌else◌, Option, Some, None, Ok}
use Rattle.std.proofs.Common.{refl, sym, ap, subst, ◌∙◌, Equal, Less, Greater}
use Rattle.std.specs.List.Sorted.{IsPermutation}
use Rattle.std.proofs.lemmas.Bool.{and_parts, and_from, both_ways, cases_Bool, not-true}
use Rattle.std.proofs.lemmas.Bool.{false_from_ne_true}
use Rattle.std.proofs.lemmas.Cmp.{tied_itself}
use Rattle.sqlite.specs.declared.types.Value.{Value}
use Rattle.sqlite.specs.declared.types.Value.TheVariants.{Null, Int}
use Rattle.sqlite.specs.Order.{Row, value_cmp}
use Rattle.sqlite.specs.Command.TheVariants.{InsertOr}
use Rattle.sqlite.specs.Does.{Does}
use Rattle.sqlite.specs.Effect.{Database, IsDatabase, IsSource, value_rows}
use Rattle.sqlite.specs.Listing.{understood}
use Rattle.sqlite.specs.Rows.{Written, Task, InsertsOr, Judged, Upserts, Clears, Updates}
use Rattle.sqlite.specs.Rows.{Puts as PutsIn, Tries, TriesEach, count_of, shown, nothing}
use Rattle.sqlite.specs.Rows.{rowids_for, stamped, Meets}
use Rattle.sqlite.specs.Rowids.TheVariants.{Given}
use Rattle.sqlite.specs.Source.{Source}
use Rattle.sqlite.specs.Source.TheVariants.{Values}
use Rattle.sqlite.specs.State.{State, Executes}
use Rattle.sqlite.specs.Table.{Table}
use Rattle.sqlite.specs.Term.{Term, col}
use Rattle.sqlite.specs.Tree.{Trees, rowid, put_row}
use Rattle.sqlite.proofs.Callers.{IsPlain, command_of, statement_of, runs_as, one_step}
use Rattle.sqlite_value.proofs.OrderLemmas.{value_cmp_total}
use Rattle.sqlite_sql.specs.declared.ops.CompareOp.TheVariants.{Ne}
use Rattle.sqlite_sql.specs.Ops.{binary, from_truth, is_true, test}
use Rattle.sqlite_schema.specs.declared.command.Conflict.TheVariants.{Abort}
use Rattle.sqlite_schema.specs.declared.command.Upsert.{Upsert}
use Rattle.sqlite_schema.specs.declared.program.Program.{Program}
use Rattle.sqlite_schema.specs.declared.schema.Constraint.TheVariants.{Unique}
use Rattle.sqlite_schema.specs.declared.schema.Index.{Index}
use Rattle.sqlite_schema.specs.declared.schema.Keys.TheVariants.{Enforced}
use Rattle.sqlite_schema.specs.Rules.{agree, differ, guards}
use Rattle.sqlite_rules.specs.declared.error.Refusal.{Refusal}
use Rattle.sqlite_rules.specs.Calls.{ids_of}
use Rattle.sqlite_rules.specs.Cast.{cast_row}
use Rattle.sqlite_rules.specs.Edit.{Edit, Applies, edit_of, taken_by, next_rowid, with_rowid, are_fresh}
use Rattle.sqlite_rules.specs.Edit.{id_in, put_all}
use Rattle.sqlite_rules.specs.Keys.{AreConflicts, conflicts}
use Rattle.sqlite_rules.specs.Lists.{Has}
use Rattle.sqlite_rules.proofs.KeyLemmas.{agree_back, agree_chain}
use Rattle.sqlite_rules.proofs.ListLemmas.{all_has, has_got, some_from, test_has}
use Rattle.sqlite_rules.proofs.RuleLemmas.{keeps_at}
use Rattle.sqlite_rules.proofs.TableLemmas.{int_is}
use Rattle.reg_tables.specs.Editing.{AreKeyed, AreTables, AltersRows, IsOffice, altered, has_all}
use Rattle.reg_tables.specs.Putting.{PutRow}
use Rattle.reg_tables.specs.Schema.{office_schema}
use Rattle.reg_tables.specs.Selecting.{equals, passes, shows}
use Rattle.reg_tables.specs.Values.{same_value}
use Rattle.reg_tables.proofs.Library.RowLists.{column_after, permutation-put_row, map_same}
use Rattle.reg_tables.proofs.Library.QuietReferences.{quiet_works}
use Rattle.reg_tables.proofs.InsertLemmas.{quiet_office, uncounts}
use Rattle.reg_tables.proofs.Library.Parts.{chosen, same_ok, went}
use Rattle.reg_tables.proofs.ValueLemmas.{passes_equals, same_value-Int}
use Rattle.reg_tables.proofs.Library.Casts.{AreGiven}
use Rattle.reg_tables.proofs.EditLemmas.Changing.{changed_found}
use Rattle.reg_tables.proofs.EditLemmas.Steps.{finding, enforcing, office_at, task_on, wrote}
use Rattle.reg_tables.proofs.EditLemmas.Steps.{edits_found, trees_after}
use Rattle.reg_tables.proofs.EditLemmas.Tables.{office_after_change, tables_after}

-- what the update reads: the parameters, the rowid of the row that is there, and the row that is not
-- added
abbrev pub updating : Table → Row → Value → Row → Row
updating table params id new = params ++ id ∷ shown table new

-- the update of the row that has the key of this index
abbrev pub upserting : Table → Index → List Term → Row → Upsert
upserting table index project params = record {
  target = Some index.columns;
  update = Some (finding table.tree (equals ((0, length params) ∷ []))
      (col 1 0 ∷ col 1 0 ∷ project));
}

-- The text adds a row of parameters, one for each column, to a table whose rowid is no column, or
-- where a row has its key changes that row. It is known by which values a row has the key, and what
-- is then made of it.
pub record Puts (sql : List ℕ) (at : ℕ) (table : Table) (terms : List Term) (index : Index)
    (project : List Term) (params : Row) (key : List (ℕ × Value)) (by : Row → Row) : Type 0 where
  pub slot : slice_get office_schema.tables at ≡ Some table
  pub is : command_of (understood office_schema sql)
      ≡ InsertOr at Abort (Values terms (length params + 1))
      (upserting table index project params ∷ [])
  pub plain : IsPlain (understood office_schema sql)
  pub counts : table.is_counted ≡ false
  pub source : value_rows (stamped table params) (length params + 1)
      (length terms / (length params + 1)) terms ≡ (Null ∷ params) ∷ []
  pub casts : cast_row table (Null ∷ params) ≡ Null ∷ params
  pub casts_at : (n : ℤ) → cast_row table (Int n ∷ params) ≡ Int n ∷ params
  pub given : (id : Value) (n : ℤ)
      → AreGiven 1 table.columns (updating table params id (Int n ∷ params)) project
  pub made : (id : Value) (n : ℤ) (row : Row)
      → shows (col 1 0 ∷ project) (updating table params id (Int n ∷ params)) row ≡ by row
  pub listed : Has office_schema.indexes index
  pub guarded : guards index table ≡ true
  pub meets : (n : ℤ) (row : Row)
      → conflicts (Some index.columns) office_schema.indexes table (Int n ∷ params) row
      ≡ agree index.order index.columns row index.columns (Int n ∷ params)
  pub keys : (n : ℤ) (row : Row)
      → agree index.order index.columns row index.columns (Int n ∷ params) ≡ has_all key row

-- ---- Rows with one key

not_differ : (m n : ℤ) → differ (Int m) (Int n) ≡ false → value_cmp (Int m) (Int n) ≡ Equal
unfolding binary
not_differ m n same = elim (value_cmp (Int m) (Int n)) as (λ o.
    is_true (from_truth (Some (test Ne o))) ≡ false → o ≡ Equal) [
      | Less ↦ λ e. absurd (cc)
      | Equal ↦ λ e. refl
      | Greater ↦ λ e. absurd (cc)
    ] same

alone : (b : Bool) → (b && true) ≡ b
alone true = refl
alone false = refl

module _ (table : Table) (index : Index) (new : Row) (db : Database) (has : db.schema ≡ office_schema)
    (sound : IsDatabase db) (keyed : AreKeyed (db.trees table.tree))
    (known : Has office_schema.tables table) (listed : Has office_schema.indexes index)
    (guarded : guards index table ≡ true) where
  abbrev rows : List Row
  rows = db.trees table.tree

  abbrev is_like : Row → Bool
  is_like row = agree index.order index.columns row index.columns new

  -- no two rows have the key of the new one
  one_like : (q r : Row) → Has rows q → Has rows r → is_like q ≡ true → is_like r ≡ true → q ≡ r
  one_like q r h k p s =
      let kept = keeps_at Unique db.schema db.trees table r (sound.obeys.rules Unique)
      (rw has known) k in
      let free = not-true _ (test_has _ db.schema.indexes index kept (rw has listed)) in
      let both = agree_chain index.order index.columns index.columns index.columns q new r p
      (agree_back index.order index.columns index.columns r new s) in
      let ids = λ (x : Row) (there : Has rows x). int_is (rowid x) (keyed.whole x there) in
      let same : differ (rowid q) (rowid r) ≡ false =
      false_from_ne_true _ (λ apart. both_ways _ free (and_from _ _ guarded
      (some_from _ rows q h (and_from _ _ both apart)))) in
      let tied = not_differ (id_in (rowid q)) (id_in (rowid r)) (rw (← ids q h, ← ids r k) same) in
      keyed.one q r h k (rw (ids q h, ids r k) tied)

  -- of the rows it is the one with this rowid
  like_by_rowid : (r : Row) → Has rows r → is_like r ≡ true → (q : Row) → Has rows q
      → same_value (rowid q) (rowid r) ≡ is_like q
  like_by_rowid r k s q h =
      let ids = λ (x : Row) (there : Has rows x). int_is (rowid x) (keyed.whole x there) in
      elim (cases_Bool (is_like q)) [
        | inl p ↦
            let is = one_like q r h k p s in
            ap (λ (x : Row). same_value (rowid x) (rowid r)) is
            ∙ ap (λ v. same_value v v) (ids r k)
            ∙ (same_value-Int (id_in (rowid r)) (id_in (rowid r))).1 refl ∙ sym p
        | inr out ↦ false_from_ne_true _ (λ same.
            let equal = (same_value-Int (id_in (rowid q)) (id_in (rowid r))).0
            (rw (ids q h, ids r k) at same) in
            let tie : value_cmp (rowid q) (rowid r) ≡ Equal =
            ap (λ v. value_cmp v (rowid r)) (ids q h ∙ ap Int equal ∙ sym (ids r k))
            ∙ tied_itself value_cmp_total (rowid r) in
            both_ways (is_like q) out (ap is_like (keyed.one q r h k tie) ∙ s)) ∙ sym out
      ]

-- ---- The parts of the statement

module _ (task : Task) (new : Row) (db : Trees) where
  -- a row that is judged well goes on
  judged_well : (clauses : List Upsert) (verdict : Option Refusal) (one : Written)
      → Judged task Abort clauses new db verdict (Ok one)
      → Upserts task Abort new db clauses (Ok one)
  judged_well clauses None one h = h
  judged_well clauses (Some why) one h = absurd (cc)

  tried_well : (clauses : List Upsert) (one : Written) → Tries task Abort clauses new db (Ok one)
      → Upserts task Abort new db clauses (Ok one)
  tried_well clauses one (inl unfit) = absurd (let e = unfit.1 in cc)
  tried_well clauses one (inr h) = judged_well clauses h.0 one h.2

  clears_none : (found : List Row) (one : Written) → Clears task Abort new db found (Ok one)
      → PutsIn task new db (Ok one)
  clears_none [] one h = h
  clears_none (x ∷ found) one h = h

  -- where no row is met, the row is put in; where one is, it is updated
  either_way : (target : Option (List ℕ)) (update : Program) (found : List Row) (one : Written)
      → AreConflicts target task.schema.indexes task.table (db task.table.tree) new found
      → Meets task (Upserts task Abort new db []) new db
      (record { target = target; update = Some update }) found (Ok one)
      → (((r : Row) → Has (db task.table.tree) r
      → conflicts target task.schema.indexes task.table new r ≡ true → ⊥)
      × PutsIn task new db (Ok one))
      ⊎ ((r : Row) × Has (db task.table.tree) r
      × (conflicts target task.schema.indexes task.table new r ≡ true)
      × Updates task update (task.params ++ rowid r ∷ shown task.table new) db (Ok one))
  either_way target update [] one are h = inl (are.complete, clears_none h.0 one h.2)
  either_way target update (there ∷ found) one are h =
      let it = are.sound there (inl refl) in
      let is : rowid there ≡ rowid it.0 = ap rowid it.3 in
      inr (
        it.0,
        it.1,
        it.2,
        subst (λ id. Updates task update
            (task.params ++ id ∷ shown task.table new) db (Ok one)) is h,
      )

module _ (limit : Option ℕ) (table : Table) (params : Row) (db : Trees)
    (uncounted : table.is_counted ≡ false) (casts : cast_row table (Null ∷ params) ≡ Null ∷ params)
  where
    abbrev task : Task
    task = task_on limit params table

    abbrev new : Row
    new = Int (next_rowid (db table.tree)) ∷ params

    -- the one row is tried
    row_tried : (clauses : List Upsert) (from : Source) (w : Written)
        → ((sources : List Row) → IsSource (office_at db) (stamped table params) from sources
        → sources ≡ (Null ∷ params) ∷ [])
        → InsertsOr task Abort clauses from db (Ok w)
        → (one : Written) × Upserts task Abort new db clauses (Ok one) × (w.trees ≡ one.trees)
    row_tried clauses from w only h =
        let given = went h in
        let counter = went given.2 in
        let top = count_of counter.0 in
        let tried = went counter.2 in
        let done = tried.0 in
        let counted = went tried.2 in
        let still = uncounts task done.0.trees counter.0 done.1 counted.0 uncounted counted.1 in
        let trees : w.trees ≡ done.0.trees =
        ap (λ (it : Written). it.trees) (same_ok counted.2) ∙ still in
        let each = subst (λ rows. TriesEach task Abort clauses rows top (nothing db) (Ok done))
        (only given.0 given.1) tried.1 in
        let first = went each in
        let row : with_rowid (rowids_for table top) (db table.tree) (cast_row table (Null ∷ params))
        ≡ new = λ i. with_rowid (chosen table.is_counted top uncounted i) (db table.tree) (casts i) in
        let one = subst (λ row. Tries task Abort clauses row db (Ok first.0)) row first.1 in
        let last : done.0.trees ≡ first.0.trees =
        ap (λ (p : Written × ℤ). p.0.trees) (same_ok first.2) in
        (first.0, tried_well task new db clauses first.0 one, trees ∙ last)

    abbrev adding : Edit
    adding = edit_of db table [] Given 0 (new ∷ [])

    -- it is put in
    row_put_in : (one : Written) → PutsIn task new db (Ok one)
        → Applies office_schema Enforced db adding one.trees
    row_put_in one h =
        let written = went h in
        let quiet = quiet_works office_schema Enforced table.tree (taken_by db adding) adding.news
        quiet_office in
        let trees : one.trees ≡ written.0 = ap (λ (it : Written). it.trees) (same_ok written.2) in
        subst (Applies office_schema Enforced db adding) (sym trees)
        (one_step office_schema Enforced db written.0 adding quiet written.1)

    -- and comes to the others
    row_comes : (next : Trees) → cast_row table new ≡ new
        → Applies office_schema Enforced db adding next
        → IsPermutation (new ∷ db table.tree) (next table.tree)
    row_comes next cast applies =
        let news : adding.news ≡ new ∷ [] = ap (λ row. row ∷ []) cast in
        let fresh = subst (λ xs. are_fresh (db table.tree) xs ≡ true) news applies.fresh in
        let after : next table.tree ≡ put_row new (db table.tree) =
        applies.rows ∙ ap (put_all (db table.tree)) news in
        subst (IsPermutation (new ∷ db table.tree)) (sym after)
        (permutation-put_row new (db table.tree) (not-true _ (and_parts _ _ fresh).0))

-- the same rows are replaced by the same rows
alters_as : (t : ℕ) (goes goes′ : Row → Bool) (by by′ : Row → Row) (old new : Database)
    → ((r : Row) → Has (old.trees t) r → goes r ≡ goes′ r) → ((r : Row) → by r ≡ by′ r)
    → AltersRows t goes by old new → AltersRows t goes′ by′ old new
alters_as t goes goes′ by by′ old new same_rows same_by a =
    let same = map_same (altered goes by) (altered goes′ by′) (old.trees t)
    (λ r h i. if same_rows r h i then same_by r i else r) in
    record {
      schema = a.schema;
      sound = a.sound;
      rows = subst (λ l. IsPermutation l (new.trees t)) same a.rows;
      in_place = λ up. a.in_place up ∙ same;
      keyed = a.keyed;
      others = a.others;
    }

module _ (sql : List ℕ) (at : ℕ) (table : Table) (terms : List Term) (index : Index)
    (project : List Term) (params : Row) (key : List (ℕ × Value)) (by : Row → Row)
    (a : Puts sql at table terms index project params key by) (limit : Option ℕ)
    (old new : Database) (office : IsOffice old) (sound : IsDatabase new) where
  abbrev db : Trees
  db = old.trees

  abbrev id : ℤ
  id = next_rowid (db table.tree)

  abbrev row : Row
  row = Int id ∷ params

  abbrev met : Row → Bool
  met = conflicts (Some index.columns) office_schema.indexes table row

  abbrev given_to : Value → Row
  given_to v = updating table params v row

  abbrev tests : List Term
  tests = equals ((0, length params) ∷ [])

  abbrev update : Program
  update = finding table.tree tests (col 1 0 ∷ col 1 0 ∷ project)

  met_is : (r : Row) → met r ≡ has_all key r
  met_is r = a.meets id r ∙ a.keys id r

  put_new : (one : Written) → new ≡ office_at one.trees
      → ((r : Row) → Has (db table.tree) r → met r ≡ true → ⊥)
      → PutsIn (task_on limit params table) row db (Ok one)
      → PutRow table.tree key params by old new
  put_new one is none h =
      let applies = row_put_in limit table params db a.counts a.casts one h in
      let edit = edit_of db table [] Given 0 (row ∷ []) in
      let trees = trees_after new one.trees is in
      record {
        office = record {
          schema = ap (λ (d : Database). d.schema) is;
          sound = sound;
          tables = subst AreTables (sym (ap (λ (d : Database). d.trees) is))
              (tables_after Enforced db one.trees edit applies office.tables);
        };
        put = inl (
          λ r there. false_from_ne_true _ (λ hits. none r there (met_is r ∙ hits)),
          record {
            schema = ap (λ (d : Database). d.schema) is ∙ sym office.schema;
            sound = sound;
            id = Int id;
            rows = subst (IsPermutation (row ∷ db table.tree)) (sym (trees table.tree))
                (row_comes limit table params db a.counts a.casts one.trees (a.casts_at id) applies);
            others = λ t other unindexed. trees t ∙ applies.others t other unindexed;
          },
        );
      }

  put_over : (one : Written) → new ≡ office_at one.trees → (r : Row) → Has (db table.tree) r
      → met r ≡ true
      → Updates (task_on limit params table) update (given_to (rowid r)) db (Ok one)
      → PutRow table.tree key params by old new
  put_over one is r there hits h =
      let listed = has_got office_schema.tables at table a.slot in
      let keyed = all_has (λ (t : Table). AreKeyed (db t.tree)) office_schema.tables table
      office.tables listed in
      let edit = λ (rows : List Row). edit_of db table (ids_of rows) Given 1 rows in
      let edits = edits_found limit table tests (col 1 0 ∷ col 1 0 ∷ project) (given_to (rowid r)) 1
      (λ rows. rows) (λ rows. (edit rows).news) db one h in
      let found = changed_found table tests project (given_to (rowid r)) old new one.trees listed
      (a.given (rowid r) id) office.schema office.sound keyed sound is edits in
      let like = sym (a.meets id r) ∙ hits in
      let changed = alters_as table.tree (passes tests (given_to (rowid r))) (has_all key)
      (shows (col 1 0 ∷ project) (given_to (rowid r))) by old new
      (λ q h. passes_equals ((0, length params) ∷ []) (given_to (rowid r)) q
      ∙ alone _ ∙ ap (same_value (rowid q)) (column_after params (rowid r) (shown table row))
      ∙ like_by_rowid table index row old office.schema office.sound keyed listed a.listed a.guarded
      r there like q h ∙ a.keys id q)
      (a.made (rowid r) id) found in
      record {
        office = office_after_change table.tree (has_all key) by old new office changed;
        put = inr ((r, there, sym (a.keys id r) ∙ like), changed);
      }

pub puts : (sql : List ℕ) (at : ℕ) (table : Table) (terms : List Term) (index : Index)
    (project : List Term) (params : Row) (key : List (ℕ × Value)) (by : Row → Row)
    (old new : State) (count : ℕ) → Puts sql at table terms index project params key by
    → IsOffice old.now → Executes sql params old new (Ok count)
    → PutRow table.tree key params by old.now new.now
puts sql at table terms index project params key by old new count a office h =
    let db = old.now.trees in
    let clauses = upserting table index project params ∷ [] in
    let from = Values terms (length params + 1) in
    let command = InsertOr at Abort from clauses in
    let w = runs_as sql params old new office_schema office.schema command a.is a.plain count h in
    let text = statement_of sql (understood office_schema sql) in
    let does = subst (λ s. Does old.step_limit enforcing params (record old.now { schema = s })
    text None command (Ok (w.tally, new.now))) office.schema w.changed in
    let done = wrote old.step_limit params db at table command w.tally new.now a.slot does in
    let tried = row_tried old.step_limit table params db a.counts a.casts clauses from done.0
    (λ sources given. given.1 ∙ a.source) done.1 in
    let one = tried.0 in
    let row = Int (next_rowid (db table.tree)) ∷ params in
    let way = either_way (task_on old.step_limit params table) row db (Some index.columns)
    (finding table.tree (equals ((0, length params) ∷ [])) (col 1 0 ∷ col 1 0 ∷ project))
    tried.1.0 one tried.1.1 tried.1.2 in
    let is = done.2 ∙ ap office_at tried.2 in
    elim way [
      | inl none ↦ put_new sql at table terms index project params key by a old.step_limit old.now
          new.now office w.sound one is none.0 none.1
      | inr there ↦ put_over sql at table terms index project params key by a old.step_limit old.now
          new.now office w.sound one is there.0 there.1 there.2 there.3
    ]
