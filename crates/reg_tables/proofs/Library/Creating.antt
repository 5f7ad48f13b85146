-- A text that makes a table does so whatever tables there are, and leaves the others as they were.
use Rattle.std.proofs.Common.{◌≡◌, ℕ, Bool, true, false, not, ◌&&◌, if◌then◌else◌, List, [], length}
use Rattle.std.proofs.Common.{Option, None, Ok, Err, inl, inr, is_some, ◌⊎◌, ◌==◌, refl, sym, ap}
use Rattle.std.proofs.Common.{subst, ◌∙◌}
use Rattle.std.specs.Prelude.{IfOk, MatchBool}
use Rattle.sqlite.specs.Rows.{Gives}
use Rattle.std.specs.Option.{option_or}
use Rattle.std.proofs.lemmas.Bool.{cases_Bool}
use Rattle.sqlite.specs.Clock.{timed as timed_with}
use Rattle.sqlite.specs.Does.{Tally, MakesTable, MakesSequence, lacks_sequence, sequence_text}
use Rattle.sqlite.specs.Effect.{Database, IsDatabase}
use Rattle.sqlite.specs.Listing.{understood}
use Rattle.sqlite.specs.Order.{Row}
use Rattle.sqlite.specs.Schema.{Schema}
use Rattle.sqlite.specs.State.{State, Executes, ExecutesIn, Runs, Writes, shows_rows, text_of}
use Rattle.sqlite.specs.Table.{Table}
use Rattle.sqlite_ast.specs.declared.CreateTable.{CreateTable as Definition}
use Rattle.sqlite_ast.specs.declared.Statement.{Statement}
use Rattle.sqlite_ast.specs.declared.Statement.TheVariants as written
use Rattle.sqlite_catalog.specs.Calls.{CreatesTable}
use Rattle.sqlite_catalog.specs.Change.{created, is_used, next_tree, KeepsRows}
use Rattle.sqlite_resolve.specs.Compile.{command, create_table, creates, is_attached, is_reserved}
use Rattle.sqlite_resolve.specs.Compile.{planned, returning, with_command}
use Rattle.sqlite_resolve.specs.Define as define
use Rattle.sqlite_resolve.specs.Lowering.{Checked, and_then}
use Rattle.sqlite_resolve.specs.Scope.{Name}
use Rattle.sqlite_resolve.specs.declared.compiled.Compiled.{Compiled}
use Rattle.sqlite_resolve.specs.declared.error.CompileError.TheVariants.{Exists, Misuse, Unsupported}
use Rattle.sqlite_schema.specs.Names.{index_named, table_named, view_named}
use Rattle.sqlite_schema.specs.declared.command.Command.{Command}
use Rattle.sqlite_schema.specs.declared.command.Command.TheVariants.{CreateTable, Nothing}
use Rattle.sqlite_schema.specs.declared.command.Returning.{Returning}
use Rattle.reg_tables.specs.Having.{Defines}
use Rattle.reg_tables.specs.Kinds.{is_making}
use Rattle.reg_tables.specs.Making.{IsMade}
use Rattle.reg_tables.proofs.Library.Compiling.{base_at, compiled_if, if_also, if_then, planned_if}
use Rattle.reg_tables.proofs.Library.Compiling.{understood_if}
use Rattle.reg_tables.proofs.Library.Parts.{same_ok, went}

abbrev Makes : Command → Type 0
Makes c = c ≡ CreateTable

abbrev IsNew : Bool → Type 0
IsNew is_new = is_new ≡ true

some_made : (b : Bool) → IfOk (if b then Ok CreateTable else Err Unsupported) Makes
some_made true = refl
some_made false = tt

free_by : (reserved other same : Bool)
    → IfOk (if reserved then Err Misuse else (if other then Err Exists else
    (if same then (if false then Ok false else Err Exists) else Ok true))) IsNew
free_by true other same = tt
free_by false true same = tt
free_by false false true = tt
free_by false false false = refl

-- a name is free for a new table, or none is made
free_or_not : (if_missing : Bool) (name : Name) (same other : Option ℕ) → not if_missing ≡ true
    → IfOk (creates if_missing name same other) IsNew
unfolding creates
free_or_not true name same other is = absurd (cc)
free_or_not false name same other is = free_by (is_reserved name) (is_some other) (is_some same)

module _ (schema : Schema) (formats : List Name) (def : Definition)
    (missing : not def.if_missing ≡ true) where
  abbrev made_of : Bool → Checked Command
  made_of is_new =
      if is_new then and_then (define.table formats def) (λ t.
      if length t.computed == length t.stamps.places && not def.resolves then Ok CreateTable
      else Err Unsupported) else Ok Nothing

  makes_new : (is_new : Bool) → IsNew is_new → IfOk (made_of is_new) Makes
  makes_new true is =
      if_then Makes (define.table formats def) (λ t.
      if length t.computed == length t.stamps.places && not def.resolves then Ok CreateTable
      else Err Unsupported)
      (λ t. some_made (length t.computed == length t.stamps.places && not def.resolves))
  makes_new false is = absurd (cc)

  abbrev asked_name : Checked Bool
  asked_name =
      creates def.if_missing def.name
      (option_or (table_named schema def.name) (view_named schema def.name))
      (index_named schema def.name)

  made_by : (attached : Bool) → IfOk (if attached then Err Unsupported
      else and_then asked_name made_of) Makes
  made_by true = tt
  made_by false =
      if_also IsNew Makes asked_name made_of
      (free_or_not def.if_missing def.name _ _ missing) makes_new

  makes_table : IfOk (create_table schema formats def) Makes
  unfolding create_table
  makes_table = made_by (is_attached schema def.name)

module _ (schema : Schema) (base : ℕ) where
  makes : (formats : List Name) (s : Statement) → is_making s ≡ true
      → IfOk (command schema formats base s) Makes
  unfolding command
  makes formats (written.CreateTable def) is = makes_table schema formats def is
  makes formats _ is = absurd (cc)

  shows_none : (s : Statement) → is_making s ≡ true → returning schema base s ≡ Ok None
  unfolding returning
  shows_none (written.CreateTable def) is = refl
  shows_none _ is = absurd (cc)

module _ (text : List ℕ) (table : Table) (it : Defines text table) where
  -- the statement makes a table, and is the whole text
  abbrev IsMaking : Compiled → Type 0
  IsMaking c = Makes c.command × (c.returning ≡ None) × (text_of text c ≡ text)

  planned_making : (schema : Schema) (plan : List Name × (Command × Option Returning))
      → planned schema it.parsed ≡ Ok plan → IsMaking (with_command it.parsed plan)
  planned_making schema plan same =
      let base = base_at schema it.parsed in
      planned_if IsMaking schema it.parsed plan same
      (shows_none schema base it.parsed.statement it.makes) (λ c made. (
        subst (λ r. IfOk r Makes) made
            (makes schema base it.parsed.formats it.parsed.statement it.makes),
        refl,
        it.whole,
      ))

  understood_making : (schema : Schema) → IfOk (understood schema text) IsMaking
  understood_making = understood_if IsMaking text
      (λ schema. compiled_if IsMaking text schema it.parsed it.is (planned_making schema))

  -- ---- The schema

  runs_making : (old new : State) (c : Compiled) (params : Row) (count : ℕ) → IsMaking c
      → Runs old new c.returning c.command (text_of text c) params count
      → Writes old new None CreateTable text params count
  runs_making old new c params count is ran = rw (is.0, is.1, is.2) at ran

  counted : (mid after : Database) (lacks : Bool)
      → MatchBool lacks (MakesTable sequence_text mid (Ok after)) (Gives mid (Ok after))
      → (after ≡ mid) ⊎ ((counter : Table) × (after.schema ≡ created mid.schema counter))
  counted mid after true h = inr (h.table, h.is)
  counted mid after false h = inl (same_ok h)

  -- the table is made, and after it perhaps one that counts rowids
  record Made (old new : Database) : Type 0 where
    mid : Database
    first : CreatesTable old.schema text old.trees mid.schema mid.trees
    next : MakesSequence mid (Ok new)
    is : first.table ≡ table
    sound : IsDatabase new

  steps : (old new : State) (count : ℕ) → Executes text [] old new (Ok count)
      → Made old.now new.now
  unfolding ExecutesIn
  steps old new count h =
      let is = subst (λ r. IfOk r IsMaking) h.1.is (understood_making old.now.schema) in
      let ran : Runs old new h.0.returning h.0.command (text_of text h.0)
      (timed_with [] h.0.formats h.1.now) count = elim (cases_Bool (shows_rows false h.0)) [
        | inl shows ↦ absurd (let e = (rw shows at h.2).0 in cc)
        | inr runs ↦ rw runs at h.2
      ] in
      let w = runs_making old new h.0 _ count is ran in
      let all = went w.changed in
      let first = went all.1 in
      let made = first.1 in
      let both : Ok made.table ≡ Ok table = sym made.defined ∙ it.defined in
      let now : all.0 ≡ new.now = sym (ap (λ (p : Tally × Database). p.1) (same_ok all.2)) in
      record {
        mid = first.0;
        first = made;
        next = subst (λ (d : Database). MakesSequence first.0 (Ok d)) now first.2;
        is = cc;
        sound = w.sound;
      }

  -- the table comes to the others, and after it perhaps that one
  pub made : (old new : State) (count : ℕ) → Executes text [] old new (Ok count)
      → (mid : Schema) × (is_used old.now.schema table.name ≡ false)
      × (mid ≡ created old.now.schema table)
      × ((new.now.schema ≡ mid) ⊎ ((counter : Table) × (new.now.schema ≡ created mid counter)))
  made old new count h =
      let m = steps old new count h in (
        m.mid.schema,
        subst (λ (t : Table). is_used old.now.schema t.name ≡ false) m.is m.first.free,
        m.first.is ∙ ap (created old.now.schema) m.is,
        elim (counted m.mid new.now (lacks_sequence m.mid.schema) m.next) [
          | inl still ↦ inl (ap (λ (d : Database). d.schema) still)
          | inr more ↦ inr more
        ],
      )

  -- where no table counts its rowids, no other comes
  pub comes : (old new : State) (count : ℕ) → Executes text [] old new (Ok count)
      → (schema : Schema) → lacks_sequence (created schema table) ≡ false
      → old.now.schema ≡ schema → IsMade schema table old.now new.now
  comes old new count h schema none has =
      let m = steps old new count h in
      let after : m.mid.schema ≡ created schema table =
      m.first.is ∙ ap (created old.now.schema) m.is ∙ ap (λ s. created s table) has in
      let plain : lacks_sequence m.mid.schema ≡ false = ap lacks_sequence after ∙ none in
      let now : new.now ≡ m.mid = same_ok (rw plain at m.next) in
      record {
        has = ap (λ (d : Database). d.schema) now ∙ after;
        empty = subst (λ (d : Database). d.trees (next_tree schema) ≡ []) (sym now)
            (subst (λ s. m.mid.trees (next_tree s) ≡ []) has m.first.empty);
        others = subst (λ (d : Database). KeepsRows schema.tables old.now.trees d.trees) (sym now)
            (subst (λ (s : Schema). KeepsRows s.tables old.now.trees m.mid.trees) has
            m.first.others);
        sound = m.sound;
      }
