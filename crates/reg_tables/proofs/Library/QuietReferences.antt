-- Where no foreign key changes rows as its parent goes or changes, a statement leads to no other work.
use Rattle.std.proofs.Common.{◌≡◌, ℕ, List, [], ◌∷◌, length, Bool, true, false, ◌==◌, ◌&&◌, None}
use Rattle.std.proofs.Common.{refl}
use Rattle.std.specs.List.{AllByRecursion, flat_map, filter_map, list_all}
use Rattle.std.proofs.lemmas.Bool.{and_parts}
use Rattle.sqlite.specs.Order.{Row}
use Rattle.sqlite.specs.Table.{Table}
use Rattle.sqlite.specs.Schema.{Schema}
use Rattle.sqlite_schema.specs.declared.schema.Keys.{Keys}
use Rattle.sqlite_schema.specs.declared.schema.Keys.TheVariants.{Enforced, Deferred, Off}
use Rattle.sqlite_schema.specs.declared.schema.Reference.{Reference}
use Rattle.sqlite_schema.specs.declared.schema.Action.{Action}
use Rattle.sqlite_schema.specs.declared.schema.Action.TheVariants.{NoAction}
use Rattle.sqlite_rules.specs.Action.{deed_for, work_for, works}
use Rattle.reg_tables.proofs.Library.EachOf.{all_if}

-- a reference that does nothing where its parent goes or changes
abbrev pub IsQuiet : Reference → Type 0
IsQuiet ref = (ref.on_delete ≡ NoAction) × (ref.on_update ≡ NoAction)

-- no reference acts
abbrev pub AreQuiet : List Table → Type 0
AreQuiet = AllByRecursion (λ t. AllByRecursion IsQuiet t.references)

no_deed : (keys : Keys) (b : Bool) (ref : Reference) → IsQuiet ref → deed_for keys b ref ≡ None
no_deed Enforced true ref quiet = rw quiet.0 refl
no_deed Enforced false ref quiet = rw quiet.1 refl
no_deed Deferred true ref quiet = rw quiet.0 refl
no_deed Deferred false ref quiet = rw quiet.1 refl
no_deed Off b ref quiet = refl

module _ (schema : Schema) (keys : Keys) (tree : ℕ) (olds news : List Row) where
  no_work_for : (child : Table) (refs : List Reference) → AllByRecursion IsQuiet refs
      → filter_map (work_for schema keys 0 tree olds news child) refs ≡ []
  no_work_for child [] quiet = refl
  no_work_for child (r ∷ refs) quiet =
      rw (no_deed keys (length news == 0) r quiet.0) (no_work_for child refs quiet.1)

  no_works : (tables : List Table) → AreQuiet tables → flat_map (λ child.
      filter_map (work_for schema keys 0 tree olds news child) child.references) tables ≡ []
  no_works [] quiet = refl
  no_works (t ∷ tables) quiet =
      rw (no_work_for t t.references quiet.0) (no_works tables quiet.1)

  pub quiet_works : AreQuiet schema.tables → works schema keys 0 tree olds news ≡ []
  quiet_works quiet = no_works schema.tables quiet

abbrev is_no_action : Action → Bool
is_no_action NoAction = true
is_no_action _ = false

no_action : (a : Action) → is_no_action a ≡ true → a ≡ NoAction
no_action NoAction e = refl
no_action _ e = absurd (cc)

abbrev pub is_quiet : Reference → Bool
is_quiet ref = is_no_action ref.on_delete && is_no_action ref.on_update

quiet_reference : (r : Reference) → is_quiet r ≡ true → IsQuiet r
quiet_reference r e =
    let both = and_parts _ _ e in
    (no_action r.on_delete both.0, no_action r.on_update both.1)

pub quiet_tables : (tables : List Table) → list_all (λ t. list_all is_quiet t.references) tables ≡ true
    → AreQuiet tables
quiet_tables tables e =
    all_if (λ (t : Table). list_all is_quiet t.references) _ tables e
    (λ t quiet. all_if is_quiet IsQuiet t.references quiet quiet_reference)
