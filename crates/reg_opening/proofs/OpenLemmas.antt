-- What the version and the rows of tables tell of a store.
use Rattle.std.proofs.Common.{◌≡◌, ℤ, List, [], ◌∷◌, map, length, refl, sym, ap, subst, ◌∙◌, arith}
use Rattle.std.proofs.Common.{IsPermutation, Option, Some, None, IsSome, is_some, slice_get, take, true}
use Rattle.std.specs.Prelude.{IfOk, Ok, Result}
use Rattle.std.specs.List.{AllByRecursion, position_from}
use Rattle.std.proofs.lemmas.Result.{IfOk-weaker}
use Rattle.std.proofs.lemmas.List.{length-map}
use Rattle.std.proofs.lemmas.List.Sorted.{IsPermutation-sym, length_permutation}
use Rattle.sqlite.specs.Effect.{Database}
use Rattle.sqlite.specs.Order.{Row}
use Rattle.sqlite.specs.Schema.{Schema}
use Rattle.sqlite.specs.State.{State, IsLive}
use Rattle.sqlite.specs.Table.{Table}
use Rattle.sqlite_schema.specs.Names.{same_name}
use Rattle.reg_maps.proofs.RowMaps.Lists.{all_permuted, shown_rows}
use Rattle.reg_opening.specs.Audits.{Audits}
use Rattle.reg_opening.specs.declared.audit.Audit.{Audit}
use Rattle.reg_core.specs.WellKept.{WellKept}
use Rattle.reg_core.specs.World.{empty_world}
use Rattle.reg_core.proofs.Keeping.OtherMaps.{with_journal}
use Rattle.reg_records.specs.Office.{version_in}
use Rattle.reg_tables.specs.Connection.{Endures, IsIdle, Stays, Works}
use Rattle.reg_tables.specs.Editing.{AreKeyed}
use Rattle.reg_tables.specs.Having.{HasTable}
use Rattle.reg_tables.specs.Schema.{office_schema, office_table}
use Rattle.reg_tables.specs.Selecting.{BeginsWith, stored}
use Rattle.reg_tables.specs.Version.{IsOther, number_of, rows_of, schema_of, table_count}
use Rattle.reg_tables.specs.declared.version.Version.{Version}
use Rattle.reg_tables.proofs.HavingLemmas.{version_found}
use Rattle.reg_tables.proofs.Enduring.{endures_then}
use Rattle.reg_tables.proofs.RestLemmas.{stays_then}
use Rattle.reg_statements.specs.Content.{HasVersionRow, content, content_at}
use Rattle.reg_statements.specs.Loading.{ReadAs}
use Rattle.reg_statements.specs.Tables.{Tables, tables_in}
use Rattle.reg_opening.specs.Acts.{StandsBeside}
use Rattle.reg_opening.specs.Feeding.{FeedsTable, tables_at}
use Rattle.reg_opening.specs.Opening.{AreRowsOf, IsOfVersion, FindsKind, HasVersionTables, ComesFirst, IsFlawIn, IsFlawOf, IsFoundAs, LeavesRoom, IsFreeBy}
use Rattle.reg_opening.specs.Opening.{HasFlaw, IsOurs, IsReadAs, IsVersionOf, Reads, only, kind_of}
use Rattle.reg_opening.specs.Parts.{AreFed, AreParts, IsBlankWorld, with_fed}
use Rattle.reg_opening.specs.Rowids.{AreOrderedKeyed}
use Rattle.reg_opening.specs.declared.beside.Beside.{Beside}
use Rattle.reg_opening.specs.declared.flaw.Flaw.{Flaw}
use Rattle.reg_opening.specs.declared.flaw.Flaw.TheVariants as flaws
use Rattle.reg_opening.specs.declared.kind.Found.{Found}
use Rattle.reg_opening.specs.declared.kind.Found.TheVariants as found
use Rattle.reg_opening.proofs.Versions.{first_begins, keyed_version, number_exact, office_rows, ranges_rows, registries_rows, schema_first, version_keyed}
use Rattle.reg_vacancies.specs.Vacancies.{AreVacanciesOf}
use Rattle.reg_vacancies.specs.declared.vacancies.Vacancies.{Vacancies}

-- ---- The version

one_row : (rows : List Row) → length rows ≡ 1 → (row : Row) × (rows ≡ row ∷ [])
one_row [] one = absurd (omega (arith, one))
one_row (row ∷ []) one = (row, refl)
one_row (row ∷ next ∷ rows) one = absurd (omega (arith, one))

counted : (n : ℤ) (rows : List Row) → HasVersionRow n rows → length rows ≡ 1
counted n rows has = ap length has.1

each_is : (n : ℤ) (rows : List Row)
    → map (λ row. version_in (stored 1 row)) rows ≡ map Some (n ∷ [])
    → AllByRecursion (λ row. version_in (stored 1 row) ≡ Some n) rows
each_is n [] read = tt
each_is n (row ∷ []) read = (cc, tt)
each_is n (row ∷ next ∷ rows) read = absurd (cc)

-- rows that all read as versions
pub version_read : (rows shown : List Row) (all : List ℤ) → IsPermutation (map (stored 1) rows) shown
    → ReadAs version_in shown all → IsVersionOf rows (only all)
version_read rows shown all moved read =
    let long = length_permutation (map (stored 1) rows) shown moved in
    let same = length-map rows (stored 1) in
    let shown_long = sym (length-map shown version_in) ∙ ap length read ∙ length-map all Some in
    go all refl (omega (arith, long, same, shown_long))
  where
    go : (some : List ℤ) → all ≡ some → length rows ≡ length some → IsVersionOf rows (only some)
    go [] is count = λ n has. let one = counted n rows has in absurd (omega (arith, one, count))
    go (n ∷ []) is count =
        let it = one_row rows count in
        let there = shown_rows (stored 1) version_in all moved read in
        let reads : AllByRecursion (λ row. version_in (stored 1 row) ≡ Some n) rows =
        all_permuted _ there.0 rows (IsPermutation-sym rows there.0 there.1)
        (each_is n there.0 (there.2 ∙ ap (map Some) is)) in
        (it.0, it.1, (subst (AllByRecursion (λ row. version_in (stored 1 row) ≡ Some n)) it.1 reads).0)
    go (n ∷ m ∷ more) is count = λ k has. let one = counted k rows has in absurd (omega (arith, one, count))

-- and rows of which one does not
pub version_unread : (rows shown : List Row) → IsPermutation (map (stored 1) rows) shown
    → ¬ AllByRecursion (λ row. IsSome (version_in row)) shown → (n : ℤ) → ¬ HasVersionRow n rows
version_unread rows shown moved unread n has =
    let one : AllByRecursion (λ row. IsSome (version_in row)) (map (stored 1) (has.0 ∷ [])) =
    (ap is_some has.2, tt) in
    unread (all_permuted (λ row. IsSome (version_in row)) (map (stored 1) rows) shown moved
    (subst (λ rs. AllByRecursion (λ row. IsSome (version_in row)) (map (stored 1) rs)) (sym has.1) one))

-- a table has one version
pub one_version : (m n : ℤ) (rows : List Row) → HasVersionRow m rows → HasVersionRow n rows → m ≡ n
one_version m n rows a b =
    let same : a.0 ∷ [] ≡ b.0 ∷ [] = sym a.1 ∙ b.1 in
    let row : a.0 ≡ b.0 = cc in
    let is : Some m ≡ Some n = sym a.2 ∙ ap (λ row. version_in (stored 1 row)) row ∙ b.2 in
    cc

-- ---- The table of the version

-- a name is of one table
one_table : (schema : Schema) (t : Table) (a b : HasTable schema t) → a.table ≡ b.table
one_table schema t a b =
    let both : Some a.at ≡ Some b.at = sym a.named ∙ b.named in
    let same : a.at ≡ b.at = cc in
    let also : Some a.table ≡ Some b.table =
    sym a.there ∙ ap (slice_get schema.tables) same ∙ b.there in
    cc

office_named : same_name office_table.name office_table.name ≡ true
unfolding same_name
office_named = refl

-- where it comes first it is in the first tree
at_front : (schema : Schema) (tables : List Table) → schema.tables ≡ tables
    → take 1 tables ≡ office_table ∷ [] → (has : HasTable schema office_table) × (has.table.tree ≡ 0)
at_front schema [] is front = absurd (cc)
at_front schema (t ∷ tables) is front =
    let office : t ≡ office_table = cc in (
      record {
        at = 0;
        table = office_table;
        named = ap (position_from (λ (t : Table). same_name t.name office_table.name) 0) is
            ∙ ap (λ (s : Table). position_from (λ (t : Table). same_name t.name office_table.name) 0
            (s ∷ tables)) office
            ∙ rw office_named refl;
        there = ap (λ all. slice_get all 0) is ∙ ap Some office;
        same = refl;
      },
      refl,
    )

front_there : (schema : Schema) → BeginsWith 1 schema
    → (has : HasTable schema office_table) × (has.table.tree ≡ 0)
front_there schema begins = at_front schema schema.tables refl begins.tables

front_tree : (schema : Schema) → BeginsWith 1 schema → (has : HasTable schema office_table)
    → has.table.tree ≡ 0
front_tree schema begins has =
    let front = front_there schema begins in
    ap (λ (t : Table). t.tree) (one_table schema office_table has front.0) ∙ front.1

-- a store says one version
pub one_number : (m n : ℤ) (db : Database) → IsOfVersion m db → IsOfVersion n db → m ≡ n
one_number m n db a b =
    let same = ap (λ (t : Table). t.tree) (one_table db.schema office_table a.has b.has) in
    one_version m n (db.trees b.has.table.tree) (subst (λ k. HasVersionRow m (db.trees k)) same a.says) b.says

-- where its table comes first, that has the row
front_says : (n : ℤ) (db : Database) → BeginsWith 1 db.schema → IsOfVersion n db
    → HasVersionRow n (tables_in db.trees).office
front_says n db begins is =
    subst (λ k. HasVersionRow n (db.trees k)) (front_tree db.schema begins is.has) is.says

-- ---- The rows

blank : IsBlankWorld empty_world
blank = assumption

-- what the rows leave free that an audit was fed, if they are those of an office that is well kept
abbrev pub LeaveFed : Tables → Option Vacancies → Type 0
LeaveFed t None = ¬ (AreFed t × WellKept (content t))
LeaveFed t (Some free) = (AreFed t × WellKept (content t)) × AreVacanciesOf (content t) free

-- what an audit says that was fed all rows but the journal, of which it says nothing
pub rows_leave : (t : Tables) (old new : Audit) (free : Option Vacancies) → Audits old empty_world
    → FeedsTable IsBlankWorld (AreFed t) (with_fed t) old new → IsFreeBy new free
    → LeaveFed t free
rows_leave t old new None audits feeds are = λ both.
    are (with_fed t empty_world) (feeds.audits empty_world audits blank both.0)
    (with_journal (content t) both.1 [])
rows_leave t old new (Some free) audits feeds are =
    let held = feeds.held empty_world audits blank are.0 in
    let left = are.1 (with_fed t empty_world) (feeds.audits empty_world audits blank held) in
    ((held, with_journal (with_fed t empty_world) left.0 (content t).journal), left.1)

-- a store of a version has the tables of registries and their ranges first
pub version_first : (v : Version) (db : Database) → BeginsWith (table_count v) db.schema
    → BeginsWith 4 db.schema
version_first v db begins = first_begins v 4 (omega arith) begins

-- ---- The store

-- the rows of a version's tables, by rowids
rows_keyed : (v : Version) (db : Database) → AreOrderedKeyed db.trees → AreParts (tables_at v db)
    → AllByRecursion (λ t. AreKeyed (rows_of v db.trees t.tree)) office_schema.tables
rows_keyed v db keyed parts =
    assumption (
      subst AreKeyed (sym (office_rows v db.trees)) keyed.0,
      subst AreKeyed (sym (registries_rows v db.trees)) keyed.1.0,
      subst AreKeyed (sym (ranges_rows v db.trees)) keyed.1.1.0,
      parts,
    )

pub is_first : (v : Version) (db : Database) → BeginsWith (table_count v) db.schema
    → HasVersionRow (number_of v) (tables_in db.trees).office → AreOrderedKeyed db.trees
    → AreParts (tables_at v db) → WellKept (content_at v db) → ComesFirst v db
is_first v db begins version keyed parts kept =
    assumption (
      version_keyed v db.trees (rows_keyed v db keyed parts),
      subst (HasVersionRow (number_of v)) (sym (office_rows v db.trees)) version,
      parts,
      begins,
      kept,
    )

-- where there are no others it is an office's
is_ours : (v : Version) (s : State) → IsLive s → Works s → s.now.schema ≡ schema_of v
    → ComesFirst v s.now → IsOurs v s.now
is_ours v s live works schema first = (
  record {
    office = record {
      schema = schema;
      sound = (live works.is_open).0;
      tables = first.keyed;
    };
    kept = first.kept;
  },
  first.well,
)

-- and an office's alone comes first
ours_first : (v : Version) (db : Database) → IsOurs v db → ComesFirst v db
ours_first v db ours = assumption (schema_first v ours.0.office.schema, ours)

pub first_parts : (v : Version) (db : Database) → ComesFirst v db
    → AreParts (tables_at v db) × WellKept (content_at v db)
first_parts v db first = assumption (keyed_version v db.trees first.keyed, first)

-- whatever flaw a store has that says a version, its rows are no office's where its tables come first
unread_rows : (v : Version) (db : Database) (flaw : Flaw) → IsFlawOf v db flaw → HasVersionTables v db
    → BeginsWith (table_count v) db.schema → AreRowsOf v db None
unread_rows v db flaws.NoOffice is has = absurd is
unread_rows v db flaws.NoVersion is has = absurd is
unread_rows v db flaws.OtherTables is has = absurd (is has)
unread_rows v db (flaws.Rows rows) is has = is.1

-- the flaw of a store that says a version
flaw_in : (v : Version) (db : Database) (flaw : Flaw) → IsOfVersion (number_of v) db
    → IsFlawOf v db flaw → IsFlawIn db flaw
flaw_in v db flaws.NoOffice says is = absurd is
flaw_in v db flaws.NoVersion says is = absurd is
flaw_in v db flaws.OtherTables says is = (v, says, is)
flaw_in v db (flaws.Rows rows) says is = (v, says, is)

-- the tables of a version begin with the table of the version
pub schema_begins : (v : Version) (db : Database) → BeginsWith (table_count v) db.schema
    → BeginsWith 1 db.schema
schema_begins v db begins = first_begins v 1 (omega arith) begins

-- an office whose tables come first says its version
first_says : (v : Version) (db : Database) → ComesFirst v db → IsOfVersion (number_of v) db
first_says v db first =
    let front = front_there db.schema (schema_begins v db first.begins) in
    record {
      has = front.0;
      says = subst (λ k. HasVersionRow (number_of v) (db.trees k)) (sym front.1)
          (subst (HasVersionRow (number_of v)) (office_rows v db.trees) first.kept.whole.0);
    }

-- where a store says a version, it is none of another
other_first : (v w : Version) (db : Database) → IsOfVersion (number_of v) db → ComesFirst w db → w ≡ v
other_first v w db says first =
    number_exact w v (one_number (number_of w) (number_of v) db (first_says w db first) says)

module _ (v : Version) (old new : State) (stays : Stays old new) (live : IsLive old)
    (version : Works new → IsOfVersion (number_of v) old.now) where
  as_first : (free : Beside) → Works new → BeginsWith (table_count v) old.now.schema
      → AreRowsOf v old.now (Some free) → ComesFirst v old.now
  as_first free works begins rows =
      is_first v old.now begins
      (front_says (number_of v) old.now (schema_begins v old.now begins) (version works)) rows.0
      rows.1.0.0 rows.1.0.1

  as_ours : (free : Beside) → Works new → old.now.schema ≡ schema_of v
      → (BeginsWith (table_count v) old.now.schema → AreRowsOf v old.now (Some free))
      → IsOurs v old.now
  as_ours free works is rows =
      let begins = schema_first v is in
      is_ours v old live (stays.worked works) is (as_first free works begins (rows begins))

  -- an office whose tables come first was not read as none
  no_first : (flaw : Flaw) → IsFlawOf v old.now flaw → Works new → (w : Version)
      → HasVersionTables w old.now → ComesFirst w old.now → ⊥
  no_first flaw read works w tables first =
      let same = other_first v w old.now (version works) first in
      let mine = subst (λ (w : Version). ComesFirst w old.now) same first in
      unread_rows v old.now flaw read (subst (λ (w : Version). HasVersionTables w old.now) same tables)
      mine.begins (first_parts v old.now mine)

  -- what the rows of a store that says this version tell
  pub read_as : (f : Found) → Works new → IsReadAs v old.now f → IsFoundAs old.now (kind_of f)
  read_as (found.Ours w free) works read =
      subst (λ (w : Version). HasVersionTables w old.now
      × (old.now.schema ≡ schema_of w → IsOurs w old.now)
      × (BeginsWith (table_count w) old.now.schema → ComesFirst w old.now)
      × IsOfVersion (number_of w) old.now) (sym read.0) (
        read.1,
        (λ is. as_ours free works is read.2),
        (λ begins. as_first free works begins (read.2 begins)),
        version works,
      )
  read_as (found.OtherVersion n) works read = absurd read
  read_as (found.NotOurs flaw) works read = (
    (
      (λ w ours. no_first flaw read works w (version_found w old.now.schema ours.0.office.schema)
          (ours_first w old.now ours)),
      (λ n is other. other v (one_number n (number_of v) old.now is (version works))),
    ),
    λ w has. no_first flaw read works w has.0 has.1,
  )

  pub read_free : (f : Found) → IsReadAs v old.now f → LeavesRoom old.now f
  read_free (found.Ours w free) read =
      subst (λ (w : Version). BeginsWith (table_count w) old.now.schema
      → StandsBeside (content_at w old.now) free) (sym read.0) (λ begins. (read.2 begins).1.1)
  read_free (found.OtherVersion n) read = absurd read
  read_free (found.NotOurs flaw) read = tt

  pub read_flaw : (f : Found) → Works new → IsReadAs v old.now f → HasFlaw old.now f
  read_flaw (found.Ours w free) works read = tt
  read_flaw (found.OtherVersion n) works read = tt
  read_flaw (found.NotOurs flaw) works read = flaw_in v old.now flaw (version works) read

-- ---- What is found, call after call

-- the rows were read of a store that says this version
pub read_finds : {E : Type 0} (v : Version) (old mid new : State) (result : Result Found E)
    → IsLive old → Endures old mid → Stays old mid
    → (Works mid → IsOfVersion (number_of v) old.now)
    → Reads v mid new result → FindsKind old new result
read_finds v old mid new result live endures stays version reads =
    let both = stays_then old mid new stays reads.stays in
    let says : Works new → IsOfVersion (number_of v) old.now =
    λ works. version (reads.stays.worked works) in
    let found : Works new → IfOk result (IsReadAs v old.now) =
    λ works. subst (λ db. IfOk result (IsReadAs v db)) (stays.unchanged (reads.stays.worked works))
    (reads.found works) in
    record {
      rest = reads.rest;
      endures = endures_then old mid new endures reads.endures;
      stays = both;
      kind = λ works.
          IfOk-weaker result _ _ (λ f read. read_as v old new both live says f works read)
          (found works);
      free = λ works.
          IfOk-weaker result _ _ (λ f read. read_free v old new both live says f read)
          (found works);
      flaw = λ works.
          IfOk-weaker result _ _ (λ f read. read_flaw v old new both live says f works read)
          (found works);
    }

-- the store says no version
pub none_finds : {E : Type 0} (old new : State) (flaw : Flaw) → IsIdle new → Endures old new
    → Stays old new → (Works new → IsFlawIn old.now flaw)
    → (Works new → (n : ℤ) → ¬ IsOfVersion n old.now)
    → FindsKind {E = E} old new (Ok (found.NotOurs flaw))
none_finds old new flaw rest endures stays is none = record {
  rest = rest;
  endures = endures;
  stays = stays;
  kind = λ works. (
    (
      (λ v ours. none works (number_of v) (first_says v old.now (ours_first v old.now ours))),
      (λ n is. absurd (none works n is)),
    ),
    λ v has. none works (number_of v) (first_says v old.now has.1),
  );
  free = λ works. tt;
  flaw = is;
}

-- it says a version that is not known
pub other_finds : {E : Type 0} (n : ℤ) (old new : State) → IsIdle new → Endures old new
    → Stays old new → IsOther n → (Works new → IsOfVersion n old.now)
    → FindsKind {E = E} old new (Ok (found.OtherVersion n))
other_finds n old new rest endures stays other version = record {
  rest = rest;
  endures = endures;
  stays = stays;
  kind = λ works. (version works, other);
  free = λ works. tt;
  flaw = λ works. tt;
}
