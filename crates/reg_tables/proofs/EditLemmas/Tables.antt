-- The tables of an office have their rows by rowids, and keep them so.
use Rattle.std.proofs.Common.{◌≡◌, ◌≢◌, inl, inr, ℕ, List, [], ◌∷◌, Bool, true, false, not}
use Rattle.std.proofs.Common.{◌==◌, refl, sym, ap, subst, ◌∙◌, Equal}
use Rattle.std.specs.Ordering.{is_eq}
use Rattle.std.specs.List.{AllByRecursion, list_all}
use Rattle.std.proofs.lemmas.Bool.{and_parts, both_ways, cases_eq, eqb-false, not-true}
use Rattle.std.proofs.lemmas.Cmp.{tied_back}
use Rattle.sqlite.specs.Effect.{Database}
use Rattle.sqlite.specs.Order.{Row, value_cmp}
use Rattle.sqlite.specs.Schema.{Schema}
use Rattle.sqlite.specs.Table.{Table}
use Rattle.sqlite.specs.Tree.{Trees, rowid, put_row}
use Rattle.sqlite_value.proofs.OrderLemmas.{value_cmp_total}
use Rattle.sqlite_trees.specs.View.{is_int}
use Rattle.sqlite_schema.specs.declared.schema.Index.{Index}
use Rattle.sqlite_schema.specs.declared.schema.Keys.{Keys}
use Rattle.sqlite_rules.specs.Edit.{Edit, Applies, IsNoIndex, put_all, is_taken, are_fresh}
use Rattle.sqlite_rules.specs.Edit.{have_rowids, without_all}
use Rattle.sqlite_rules.specs.Lists.{Has}
use Rattle.sqlite_rules.proofs.ListLemmas.{all_has, all_from, some_from, test_has}
use Rattle.sqlite_rules.proofs.TableLemmas.{put_has, without_all_has}
use Rattle.reg_tables.specs.Schema.{office_schema}
use Rattle.reg_tables.specs.Editing.{AreKeyed, AreTables, IsOffice, LosesRows, AltersRows}

pub keyed-nil : AreKeyed []
keyed-nil = record { whole = λ r none. absurd none; one = λ r q none k tie. absurd none }

pub tables_if_empty : (trees : Trees)
    → AllByRecursion (λ t. trees t.tree ≡ []) office_schema.tables → AreTables trees
tables_if_empty trees empty = all_from _ office_schema.tables (λ t there.
    let none = all_has (λ (u : Table). trees u.tree ≡ []) office_schema.tables t empty there in
    subst AreKeyed (sym none) keyed-nil)

-- a row whose rowid is free is put in
pub keyed-put_row : (new : Row) (rows : List Row) → is_int (rowid new) ≡ true
    → is_taken rows new ≡ false → AreKeyed rows → AreKeyed (put_row new rows)
keyed-put_row new rows whole free keyed = record {
  whole = λ r h. elim (put_has new rows r h) [
    | inl same ↦ rw same whole
    | inr was ↦ keyed.whole r was
  ];
  one = λ r q h k tie. elim (put_has new rows r h) [
    | inl same ↦ elim (put_has new rows q k) [
      | inl also ↦ same ∙ sym also
      | inr old ↦ absurd (apart q old (tied_back value_cmp_total (rowid r) (rowid q) tie) same)
    ]
    | inr was ↦ elim (put_has new rows q k) [
      | inl also ↦ absurd (apart r was tie also)
      | inr old ↦ keyed.one r q was old tie
    ]
  ];
}
  where
    apart : (r : Row) {q : Row} → Has rows r → value_cmp (rowid r) (rowid q) ≡ Equal → q ≡ new → ⊥
    apart r h tie same =
        let tied = ap is_eq (subst (λ x. value_cmp (rowid r) (rowid x) ≡ Equal) same tie) in
        both_ways (is_taken rows new) free (some_from _ rows r h tied)

pub keyed-put_all : (news rows : List Row) → have_rowids news ≡ true → are_fresh rows news ≡ true
    → AreKeyed rows → AreKeyed (put_all rows news)
keyed-put_all [] rows whole fresh keyed = keyed
keyed-put_all (n ∷ news) rows whole fresh keyed =
    let free = and_parts (not (is_taken rows n)) (are_fresh (put_row n rows) news) fresh in
    let ids = and_parts (is_int (rowid n)) (have_rowids news) whole in
    keyed-put_all news (put_row n rows) ids.1 free.1
    (keyed-put_row n rows ids.0 (not-true _ free.0) keyed)

-- after a step of a statement
pub keyed_after : (schema : Schema) (keys : Keys) (db next : Trees) (edit : Edit)
    → Applies schema keys db edit next → AreKeyed (db edit.table.tree)
    → AreKeyed (next edit.table.tree)
keyed_after schema keys db next edit applies keyed =
    let rows = db edit.table.tree in
    let was = λ (r : Row) (h : Has (without_all rows edit.gone) r).
    without_all_has edit.gone rows r h in
    let left : AreKeyed (without_all rows edit.gone) = record {
      whole = λ r h. keyed.whole r (was r h);
      one = λ r q h k. keyed.one r q (was r h) (was q k);
    } in
    subst AreKeyed (sym applies.rows)
    (keyed-put_all edit.news (without_all rows edit.gone) applies.keyed applies.fresh left)

pub tables_after : (keys : Keys) (db next : Trees) (edit : Edit)
    → Applies office_schema keys db edit next → AreTables db → AreTables next
tables_after keys db next edit applies tables =
    all_from _ office_schema.tables (λ t there.
    let keyed = all_has (λ (t : Table). AreKeyed (db t.tree)) office_schema.tables t tables there in
    elim (cases_eq t.tree edit.table.tree) [
      | inl same ↦ subst (λ u. AreKeyed (next u)) (sym same)
          (keyed_after office_schema keys db next edit applies
          (subst (λ u. AreKeyed (db u)) same keyed))
      | inr other ↦ subst AreKeyed
          (sym (all_has (λ (u : Table). u.tree ≢ edit.table.tree → next u.tree ≡ db u.tree)
          office_schema.tables t applies.tables there other)) keyed
    ])

-- no table stands in the tree of an index
abbrev is_apart : Table → Index → Bool
is_apart t i = not (i.tree == t.tree)

all_apart : list_all (λ t. list_all (is_apart t) office_schema.indexes) office_schema.tables ≡ true
all_apart = refl

no_index : (t : Table) → Has office_schema.tables t → IsNoIndex office_schema t.tree
no_index t there =
    let tests = test_has (λ u. list_all (is_apart u) office_schema.indexes) office_schema.tables t
    all_apart there in
    all_from _ office_schema.indexes (λ i listed. eqb-false i.tree t.tree
    (not-true _ (test_has (is_apart t) office_schema.indexes i tests listed)))

-- where one table is known to have its rows by rowids, and each other is as it was
pub tables_with : (t : ℕ) (db next : Trees) → AreKeyed (next t)
    → ((u : ℕ) → u ≢ t → IsNoIndex office_schema u → next u ≡ db u) → AreTables db → AreTables next
tables_with t db next keyed others tables =
    all_from _ office_schema.tables (λ u there. elim (cases_eq u.tree t) [
      | inl same ↦ subst (λ x. AreKeyed (next x)) (sym same) keyed
      | inr other ↦ subst AreKeyed (sym (others u.tree other (no_index u there)))
          (all_has (λ (x : Table). AreKeyed (db x.tree)) office_schema.tables u tables there)
    ])

pub office_after_loss : (t : ℕ) (goes : Row → Bool) (old new : Database) → IsOffice old
    → LosesRows t goes old new → IsOffice new
office_after_loss t goes old new office lost = record {
  schema = lost.schema ∙ office.schema;
  sound = lost.sound;
  tables = tables_with t old.trees new.trees lost.keyed lost.others office.tables;
}

pub office_after_change : (t : ℕ) (alters : Row → Bool) (by : Row → Row) (old new : Database)
    → IsOffice old → AltersRows t alters by old new → IsOffice new
office_after_change t alters by old new office altered = record {
  schema = altered.schema ∙ office.schema;
  sound = altered.sound;
  tables = tables_with t old.trees new.trees altered.keyed altered.others office.tables;
}
