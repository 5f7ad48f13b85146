-- What tables, with their indexes, come to a schema by texts that define them.
use Rattle.std.proofs.Common.{◌≡◌, ℕ, suc, ◌+◌, ◌≤◌, true, false, ◌||◌, List, [], ◌∷◌, ◌++◌, length}
use Rattle.std.proofs.Common.{slice_get, Option, Some, None, Ok, inl, inr, is_some, refl, sym, ap}
use Rattle.std.proofs.Common.{subst, ◌∙◌, arith, length-append}
use Rattle.std.specs.List.{position_from}
use Rattle.std.proofs.lemmas.Bool.{and_parts}
use Rattle.std.proofs.lemmas.List.{append_assoc, append-nil}
use Rattle.sqlite.specs.Schema.{Schema}
use Rattle.sqlite.specs.State.{State, Executes}
use Rattle.sqlite.specs.Table.{Table}
use Rattle.sqlite_catalog.specs.Change.{automatics, created, is_used, next_tree}
use Rattle.sqlite_schema.specs.Names.{index_named, same_name, table_named, view_named}
use Rattle.reg_tables.specs.Having.{Defines, Extends, Gains, GainsEach, GainsOne}
use Rattle.reg_tables.specs.Having.{HasTable, keys_of, unplaced}
use Rattle.reg_tables.proofs.Library.Creating.{made}
use Rattle.reg_tables.proofs.Library.EachOf.{all_join, all_then}
use Rattle.reg_tables.proofs.Library.GrowingLists.{at_end, before_more, got_at_end, got_before}

length_automatics : (table : Table) (at tree : ℕ) (keys : List (List ℕ))
    → length (automatics table at tree keys) ≡ length keys
length_automatics table at tree [] = refl
length_automatics table at tree (key ∷ keys) =
    ap suc (length_automatics table (at + 1) (tree + 1) keys)

-- what stood there stands there
pub still_has : {n m : ℕ} {old new : Schema} (t : Table) → Extends n m old new → HasTable old t
    → HasTable new t
still_has {old = old} t grows has = record {
  at = has.at;
  table = has.table;
  named = ap (position_from (λ (u : Table). same_name u.name t.name) 0) grows.tables_come.1
      ∙ before_more (λ (u : Table). same_name u.name t.name) old.tables grows.tables_come.0 0 has.at
      has.named;
  there = ap (λ tables. slice_get tables has.at) grows.tables_come.1
      ∙ got_before _ grows.tables_come.0 has.at has.table has.there;
  same = has.same;
}

pub extends_then : {n m k l : ℕ} {a b c : Schema} → Extends n m a b → Extends k l b c
    → Extends (n + k) (m + l) a c
extends_then p q = record {
  views = q.views ∙ p.views;
  tables_come =
      let less = p.tables_come.2 in
      let more = q.tables_come.2 in (
        p.tables_come.0 ++ q.tables_come.0,
        q.tables_come.1 ∙ ap (λ xs. xs ++ q.tables_come.0) p.tables_come.1
            ∙ append_assoc _ p.tables_come.0 q.tables_come.0,
        omega (arith, less, more, length-append p.tables_come.0 q.tables_come.0),
      );
  indexes_come =
      let less = p.indexes_come.2 in
      let more = q.indexes_come.2 in (
        p.indexes_come.0 ++ q.indexes_come.0,
        q.indexes_come.1 ∙ ap (λ xs. xs ++ q.indexes_come.0) p.indexes_come.1
            ∙ append_assoc _ p.indexes_come.0 q.indexes_come.0,
        omega (arith, less, more, length-append p.indexes_come.0 q.indexes_come.0),
      );
}

created_extends : (schema : Schema) (table : Table)
    → Extends 1 (length table.uniques) schema (created schema table)
created_extends schema table =
    let new : Table = record table { tree = next_tree schema } in
    record {
      views = refl;
      tables_come = (new ∷ [], refl, omega arith);
      indexes_come =
          let same = length_automatics new 0 (new.tree + 1) new.uniques in
          (automatics new 0 (new.tree + 1) new.uniques, refl, omega (arith, same));
    }

no_more : (schema : Schema) → Extends 0 0 schema schema
no_more schema = record {
  views = refl;
  tables_come = ([], sym (append-nil _), omega arith);
  indexes_come = ([], sym (append-nil _), omega arith);
}

at_least : {n m k l : ℕ} {old new : Schema} → k ≤ n → l ≤ m → Extends n m old new
    → Extends k l old new
at_least low few grows =
    let tables = grows.tables_come.2 in
    let indexes = grows.indexes_come.2 in
    record {
      views = grows.views;
      tables_come = (grows.tables_come.0, grows.tables_come.1, omega (arith, low, tables));
      indexes_come = (grows.indexes_come.0, grows.indexes_come.1, omega (arith, few, indexes));
    }

pub unnamed : (schema : Schema) (name : List ℕ) → is_used schema name ≡ false
    → table_named schema name ≡ None
unnamed schema name free = go (table_named schema name) free
  where
    go : (o : Option ℕ) → (is_some o || is_some (index_named schema name)
        || is_some (view_named schema name)) ≡ false → o ≡ None
    go None e = refl
    go (Some at) e = absurd (cc)

created_has : (schema : Schema) (table : Table) → is_used schema table.name ≡ false
    → same_name table.name table.name ≡ true → HasTable (created schema table) table
created_has schema table free own = record {
  at = length schema.tables;
  table = record table { tree = next_tree schema };
  named = at_end (λ (u : Table). same_name u.name table.name) schema.tables _ [] 0
      (unnamed schema table.name free) own ∙ ap Some (omega arith);
  there = got_at_end schema.tables _ [];
  same = refl;
}

has_placed : (schema : Schema) (table : Table) → HasTable schema (unplaced table)
    → HasTable schema table
has_placed schema table has = record {
  at = has.at;
  table = has.table;
  named = has.named;
  there = has.there;
  same = has.same;
}

-- a text that defines a table adds it
pub gains : (text : List ℕ) (table : Table) → Defines text (unplaced table)
    → same_name table.name table.name ≡ true → (old new : State) (count : ℕ)
    → Executes text [] old new (Ok count)
    → Gains (table ∷ []) 1 (length table.uniques) old.now.schema new.now.schema
gains text table it own old new count h =
    let done = made text (unplaced table) it old new count h in
    let schema = old.now.schema in
    let first = created_extends schema (unplaced table) in
    let after : Extends 0 0 done.0 new.now.schema = elim done.3 [
      | inl still ↦ subst (Extends 0 0 done.0) (sym still) (no_more done.0)
      | inr more ↦ subst (Extends 0 0 done.0) (sym more.1)
          (at_least (omega arith) (omega arith) (created_extends done.0 more.0))
    ] in
    let later = subst (λ s. Extends 0 0 s new.now.schema) done.2 after in
    let here = created_has schema (unplaced table) done.1 own in
    record {
      extends = at_least (omega arith) (omega arith) (extends_then first later);
      has = (has_placed new.now.schema table (still_has (unplaced table) later here), tt);
    }

-- what comes in one step and in another
pub gains_then : {all more : List Table} {n m k l : ℕ} {a b c : Schema} → Gains all n m a b
    → Gains more k l b c → Gains (all ++ more) (n + k) (m + l) a c
gains_then {all = all} {more = more} {c = c} p q = record {
  extends = extends_then p.extends q.extends;
  has = all_join (HasTable c) all more (all_then all p.has (λ t has. still_has t q.extends has)) q.has;
}

-- where nothing comes
pub gains_none : (schema : Schema) → GainsEach [] schema schema
gains_none schema [] defined named = record { extends = no_more schema; has = tt }
gains_none schema (t ∷ tables) defined named = absurd defined

-- what comes by a text and what comes by those after it
pub gains_each : (text : List ℕ) (texts : List (List ℕ)) (a b c : Schema)
    → GainsOne text a b → GainsEach texts b c → GainsEach (text ∷ texts) a c
gains_each text texts a b c one each [] defined named = absurd defined
gains_each text texts a b c one each (t ∷ tables) defined named =
    let both = and_parts _ _ named in
    let all = gains_then (one t defined.0 both.0) (each tables defined.1 both.1) in
    let count : 1 + length tables ≡ length (t ∷ tables) = omega arith in
    subst (λ n. Gains (t ∷ tables) n (keys_of (t ∷ tables)) a c) count all

pub gains_as : {all : List Table} {n m : ℕ} {a b c : Schema} → c ≡ b → Gains all n m a b
    → Gains all n m a c
gains_as {all = all} {n = n} {m = m} {a = a} same = subst (Gains all n m a) (sym same)
