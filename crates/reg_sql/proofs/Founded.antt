-- The tables that an office is founded in hold the empty office.
use Rattle.std.proofs.Common.{◌≡◌, List, [], length, refl, sym, ap, subst, ◌∙◌}
use Rattle.std.specs.Prelude.{Option, Some, None, IsSome, is_some, option_and_then}
use Rattle.std.specs.declared.cmp.Ordering.{Ordering}
use Rattle.std.specs.FinMap.{contains_key, empty, get, get-empty}
use Rattle.sqlite.specs.Effect.{Database}
use Rattle.sqlite.specs.Order.{Row}
use Rattle.reg_maps.specs.Maps.{select}
use Rattle.reg_maps.specs.RowMaps.{IsTable}
use Rattle.reg_maps.proofs.MapLaws.{IsKeyOrder, get-select, same_at, text_keys}
use Rattle.reg_maps.proofs.RowMaps.Tables.{empty_table}
use Rattle.reg_core.specs.Entry.{with_hold}
use Rattle.reg_core.specs.Minutes.{with_minute}
use Rattle.sqlite.specs.State.{State}
use Rattle.reg_core.specs.WellKept.{WellKept}
use Rattle.reg_core.specs.World.{World, empty_world, name_cmp, place_cmp}
use Rattle.reg_core.proofs.Keeping.FirstWorlds.{first_worlds_kept}
use Rattle.reg_core.proofs.KeyOrders.{name_keys, place_keys}
use Rattle.reg_vacancies.specs.Vacancies.{AreVacancies, AreVacanciesOf}
use Rattle.reg_vacancies.specs.declared.vacancies.Vacancies.{Vacancies}
use Rattle.reg_tables.specs.Connection.{Holds, IsIdle}
use Rattle.reg_tables.specs.Having.{GainsTables}
use Rattle.reg_tables.specs.Making.{IsBlank, IsFounded, no_schema}
use Rattle.reg_tables.specs.Schema.{office_schema}
use Rattle.reg_tables.specs.Version.{newest, number_of}
use Rattle.reg_tables.proofs.GrowLemmas.{none_before}
use Rattle.reg_statements.specs.Content.{AreKept, HasVersionRow, IsStored, content, content_of, registry_table}
use Rattle.reg_statements.specs.Tables.{Tables, tables_in}
use Rattle.reg_statements.proofs.Numbering.{none_counted, none_latest}
use Rattle.reg_sql.specs.Keeping.{CountsTo, KeepsOffice}
use Rattle.reg_sql.specs.Opening.{HasNoTables}

-- tables that are empty but for the version
abbrev bare : List Row → Tables
bare rows = record (tables_in (λ t. [])) { office = rows }

are_bare : (db : Database) → IsFounded db → tables_in db.trees ≡ bare (tables_in db.trees).office
are_bare db it =
    let e = it.empty in
    λ i. record {
      office = (tables_in db.trees).office;
      caps = e.0 i;
      registries = e.1.0 i;
      ranges = e.1.1.0 i;
      entries = e.1.1.1.0 i;
      requests = e.1.1.1.1.0 i;
      queue = e.1.1.1.1.1.0 i;
      advice = e.1.1.1.1.1.1.0 i;
      pool = e.1.1.1.1.1.1.1.0 i;
      blocks = e.1.1.1.1.1.1.1.1.0 i;
      holds = e.1.1.1.1.1.1.1.1.1.0 i;
      minutes = e.1.1.1.1.1.1.1.1.1.1.0 i;
      agents = e.1.1.1.1.1.1.1.1.1.1.1.0 i;
      journal = e.1.1.1.1.1.1.1.1.1.1.1.1.0 i;
    }

select-empty : {K X Y : Type 0} {R : K → K → Ordering} (o : IsKeyOrder R) (f : K → X → Option Y)
    → select {R = R} f empty ≡ empty
select-empty {R = R} o f = same_at o _ _ (λ q.
    get-select o f empty q
    ∙ ap (option_and_then (f q)) (get-empty R q)
    ∙ sym (get-empty R q))

absent : {P : Type 0} {A : Type 0} (o : Option A) → o ≡ None → IsSome o → P
absent o none some = let gone = ap is_some none in absurd (cc)

none : {K X : Type 0} {R : K → K → Ordering} {of : Row → Option (K × X)} → IsTable R of []
none {R = R} {of = of} = (empty_table R of).0

bare_kept : (rows : List Row) → HasVersionRow (number_of newest) rows → AreKept newest (bare rows)
bare_kept rows version = record {
  whole = (version, search none);
  tied = record {
    ranges = λ place some. absent _ (get-empty place_cmp place) some;
    holds = λ place marked. absent _ (get-empty place_cmp place) marked;
    minutes = λ name some. absent _ (get-empty name_cmp name) some;
    acts = none_counted;
  };
}

bare_content : (rows : List Row) → content (bare rows) ≡ empty_world
bare_content rows = λ i. record empty_world {
  registries =
      select-empty text_keys (λ name max. Some (registry_table empty name max)) i;
  entries =
      select-empty place_keys (λ place a. Some (with_hold (contains_key {X = Unit {0}} {R = place_cmp} empty place) a)) i;
  requests = select-empty name_keys (λ name case. Some (with_minute (get {R = name_cmp} empty name) case)) i;
  journal = none_latest i;
}

first_version : (db : Database) → IsFounded db
    → HasVersionRow (number_of newest) (tables_in db.trees).office
first_version db it = (it.version.row, it.version.only, rw it.version.says refl)

pub founded_stored : (db : Database) → IsFounded db → IsStored db
founded_stored db it = record {
  office = it.office;
  kept = subst (AreKept newest) (sym (are_bare db it)) (bare_kept _ (first_version db it));
}

-- it holds the empty office
pub founded_empty : (db : Database) → IsFounded db → content_of db ≡ empty_world
founded_empty db it = ap content (are_bare db it) ∙ bare_content (tables_in db.trees).office

-- an office keeps to it
pub keeps_founded : (s : State) → IsIdle s → (Holds s → IsFounded s.now) → (v : Vacancies)
    → AreVacancies v empty empty empty → KeepsOffice (Some v) s
keeps_founded s idle founded v are = record {
  keeping = record { idle = idle; stored = λ h. founded_stored s.now (founded h) };
  kept = λ h. subst WellKept (sym (founded_empty s.now (founded h))) first_worlds_kept.0;
  follows = λ h. subst (λ w. AreVacanciesOf w v) (sym (founded_empty s.now (founded h))) are;
}

-- and has no act
pub counts_founded : (s : State) → (Holds s → IsFounded s.now) → CountsTo 0 s
counts_founded s founded h =
    ap (λ (w : World). length w.journal) (sym (founded_empty s.now (founded h)))

-- a store without tables has none that are not empty
pub blank : (db : Database) → HasNoTables db → IsBlank no_schema db
blank db none = record { has = none; empty = tt }

-- where the office's tables came and there are no others, there were none before
pub founded_alone : (old new : State)
    → GainsTables office_schema.tables old.now.schema new.now.schema
    → (IsBlank no_schema old.now → IsFounded new.now) → Holds new
    → HasNoTables old.now × IsFounded new.now
founded_alone old new gained made h =
    let none = none_before old.now.schema new.now.schema gained h.tables in
    (none, made (blank old.now none))
