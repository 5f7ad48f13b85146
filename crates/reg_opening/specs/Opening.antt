-- What a store is to an office that opens it.
use Rattle.std.specs.Prelude.{◌≡◌, ℤ, List, [], ◌∷◌, Option, Some, None, MatchOption, Result, Ok, Err, IfOk, IsTrue}
use Rattle.std.specs.List.{AllByRecursion}
use Rattle.sqlite.specs.Effect.{Database}
use Rattle.sqlite.specs.Order.{Row}
use Rattle.sqlite.specs.State.{State}
use Rattle.sqlite.specs.Table.{Table}
use Rattle.sqlite.specs.declared.error.Error.{Error}
use Rattle.sqlite_trees.specs.declared.store.Store.{Ghosts}
use Rattle.reg_keeper.specs.declared.keeper.Fault.{Fault}
use Rattle.reg_core.specs.WellKept.{WellKept}
use Rattle.reg_core.specs.World.{World}
use Rattle.reg_opening.specs.Audits.{Audits, is_well_kept}
use Rattle.reg_opening.specs.declared.audit.Audit.{Audit}
use Rattle.reg_vacancies.specs.Vacancies.{AreVacanciesOf}
use Rattle.reg_vacancies.specs.declared.vacancies.Vacancies.{Vacancies}
use Rattle.reg_tables.specs.Editing.{AreKeyed}
use Rattle.reg_tables.specs.Connection.{Endures, IsIdle, Stays, Works}
use Rattle.reg_tables.specs.Having.{AreFreeLater, FindsTablesOf, HasTable}
use Rattle.reg_tables.specs.Schema.{office_table}
use Rattle.reg_tables.specs.Selecting.{BeginsWith}
use Rattle.reg_tables.specs.Version.{IsOther, number_of, rows_of, schema_of, table_count, tables_of}
use Rattle.reg_tables.specs.declared.version.Version.{Version}
use Rattle.reg_statements.specs.Content.{AreKept, HasVersionRow, IsStoredAs, content, content_at}
use Rattle.reg_statements.specs.Tables.{Tables, tables_in}
use Rattle.reg_opening.specs.Acts.{StandsBeside}
use Rattle.reg_opening.specs.Causes.{HasCause}
use Rattle.reg_opening.specs.Feeding.{tables_at}
use Rattle.reg_opening.specs.Unordered.{IsUnordered}
use Rattle.reg_opening.specs.Parts.{AreParts}
use Rattle.reg_opening.specs.Rowids.{AreOrderedKeyed}
use Rattle.reg_opening.specs.declared.beside.Beside.{Beside}
use Rattle.reg_opening.specs.declared.kind.Found.{Found}
use Rattle.reg_opening.specs.declared.kind.Found.TheVariants as found
use Rattle.reg_opening.specs.declared.flaw.Flaw.{Flaw}
use Rattle.reg_opening.specs.declared.flaw.Flaw.TheVariants.{NoOffice, NoVersion, OtherTables, Rows}
use Rattle.reg_opening.specs.declared.flaw.RowFlaw.{RowFlaw}
use Rattle.reg_opening.specs.declared.kind.StoreKind.{StoreKind}
use Rattle.reg_opening.specs.declared.kind.StoreKind.TheVariants.{Ours, OtherVersion, NotOurs}

-- the version of the table's one row, or none where it has another number of rows or another form
abbrev pub IsVersionOf : List Row → Option ℤ → Type 0
IsVersionOf rows version =
    MatchOption version ((n : ℤ) → ¬ HasVersionRow n rows) (λ n. HasVersionRow n rows)

-- the one element of a list
abbrev pub only : List ℤ → Option ℤ
only [] = None
only (n ∷ []) = Some n
only (n ∷ m ∷ more) = None

-- the version of this number, or none where no version has it
abbrev pub IsNumberShown : ℤ → Option Version → Type 0
IsNumberShown n version = MatchOption version (IsOther n) (λ v. n ≡ number_of v)

-- the tables are those of a version, and hold a world that is well kept
abbrev pub IsOurs : Version → Database → Type 0
IsOurs v db = IsStoredAs v db × WellKept (content_at v db)

-- the tables of a version are there, and nothing has the name of one that the version lacks
abbrev pub HasVersionTables : Version → Database → Type 0
HasVersionTables v db = FindsTablesOf v db.schema × AreFreeLater v db.schema

-- the tables of a version come first, and hold an office that is well kept, whatever tables follow
pub record ComesFirst (v : Version) (db : Database) : Type 0 where
  pub begins : BeginsWith (table_count v) db.schema
  pub keyed : AllByRecursion (λ (t : Table). AreKeyed (db.trees t.tree)) (tables_of v)
  pub kept : AreKept v (tables_in (rows_of v db.trees))
  pub well : WellKept (content_at v db)

-- there is the table `office` with its one column, wherever it stands, and its one row says this
-- version
pub record IsOfVersion (n : ℤ) (db : Database) : Type 0 where
  pub has : HasTable db.schema office_table
  pub says : HasVersionRow n (db.trees has.table.tree)

-- what a store is whose tables stand alone: an office's of a version, with the tables of this and no
-- others and a content that is well kept; an office's of a version that this library does not know;
-- or neither
abbrev pub IsKind : Database → StoreKind → Type 0
IsKind db (Ours v) = IsOurs v db
IsKind db (OtherVersion n) = IsOfVersion n db × IsOther n
IsKind db NotOurs =
    ((v : Version) → ¬ IsOurs v db) × ((n : ℤ) → IsOfVersion n db → ¬ IsOther n)

-- the rows are those of an office that is well kept, beside which this stands; or they are not
abbrev pub LeaveFree : Tables → Option Beside → Type 0
LeaveFree t None = ¬ (AreParts t × WellKept (content t))
LeaveFree t (Some free) = (AreParts t × WellKept (content t)) × StandsBeside (content t) free

-- what the rows leave free that an audit was fed, if they are those of an office that is well kept
abbrev pub IsFreeBy : Audit → Option Vacancies → Type 0
IsFreeBy audit None = (w : World) → Audits audit w → ¬ WellKept w
IsFreeBy audit (Some free) =
    IsTrue (is_well_kept audit) × ((w : World) → Audits audit w → WellKept w × AreVacanciesOf w free)

-- what a store is that was found
abbrev pub kind_of : Found → StoreKind
kind_of (found.Ours v free) = Ours v
kind_of (found.OtherVersion n) = OtherVersion n
kind_of (found.NotOurs flaw) = NotOurs

-- and what stands beside it, if it is an office's whose tables come first
abbrev pub LeavesRoom : Database → Found → Type 0
LeavesRoom db (found.Ours v free) =
    BeginsWith (table_count v) db.schema → StandsBeside (content_at v db) free
LeavesRoom db (found.OtherVersion n) = Unit {0}
LeavesRoom db (found.NotOurs flaw) = Unit {0}

-- What a store is told to be. Where it is an office's of a version, the row of the version says so and
-- its tables are there, and where they come first, or there are no others, its rows are what is told.
-- It is one of a version that is not known exactly where the row of the version says such a one,
-- whatever tables there are. Else there is no office whose tables come first, or have no others
-- beside them.
abbrev pub IsFoundAs : Database → StoreKind → Type 0
IsFoundAs db (Ours v) =
    HasVersionTables v db × (db.schema ≡ schema_of v → IsKind db (Ours v))
    × (BeginsWith (table_count v) db.schema → ComesFirst v db) × IsOfVersion (number_of v) db
IsFoundAs db (OtherVersion n) = IsKind db (OtherVersion n)
IsFoundAs db NotOurs =
    IsKind db NotOurs × ((v : Version) → ¬ (HasVersionTables v db × ComesFirst v db))

-- the rows are an office's that is well kept, beside which this stands; or they are not
abbrev pub AreRowsOf : Version → Database → Option Beside → Type 0
AreRowsOf v db None = LeaveFree (tables_at v db) None
AreRowsOf v db (Some free) = AreOrderedKeyed db.trees × LeaveFree (tables_at v db) (Some free)

-- what stands beside the rows, if they have no flaw
abbrev pub free_in : Result Beside RowFlaw → Option Beside
free_in (Ok free) = Some free
free_in (Err flaw) = None

-- of a store that says this version: its tables are not there; or they are, and where they come first
-- their rows are no office's that is well kept
abbrev pub IsFlawOf : Version → Database → Flaw → Type 0
IsFlawOf v db NoOffice = ⊥
IsFlawOf v db NoVersion = ⊥
IsFlawOf v db OtherTables = ¬ HasVersionTables v db
IsFlawOf v db (Rows flaw) =
    HasVersionTables v db × (BeginsWith (table_count v) db.schema → AreRowsOf v db None)

-- the condition that fails: there is no table of the version; or no version in it; or it is one that is
-- known, and has that flaw
abbrev pub IsFlawIn : Database → Flaw → Type 0
IsFlawIn db NoOffice = ¬ HasTable db.schema office_table
IsFlawIn db NoVersion = HasTable db.schema office_table × ((n : ℤ) → ¬ IsOfVersion n db)
IsFlawIn db OtherTables = (v : Version) × IsOfVersion (number_of v) db × IsFlawOf v db OtherTables
IsFlawIn db (Rows flaw) = (v : Version) × IsOfVersion (number_of v) db × IsFlawOf v db (Rows flaw)

-- so it is of what was found, if it is none of an office's
abbrev pub HasFlaw : Database → Found → Type 0
HasFlaw db (found.Ours v free) = Unit {0}
HasFlaw db (found.OtherVersion n) = Unit {0}
HasFlaw db (found.NotOurs flaw) = IsFlawIn db flaw

-- it has the tables of this version, if it is told to be an office's, and where they come first, its
-- rows are what is told; else it has the flaw that is told
abbrev pub IsReadAs : Version → Database → Found → Type 0
IsReadAs v db (found.Ours w free) =
    (w ≡ v) × HasVersionTables v db
    × (BeginsWith (table_count v) db.schema → AreRowsOf v db (Some free))
IsReadAs v db (found.OtherVersion n) = ⊥
IsReadAs v db (found.NotOurs flaw) = IsFlawOf v db flaw

-- A call that reads the rows of a store of a version. The store stays as it was.
pub record Reads {E : Type 0} (v : Version) (old new : State) (result : Result Found E) : Type 0 where
  pub rest : IsIdle new
  pub endures : Endures old new
  pub stays : Stays old new
  pub found : Works new → IfOk result (IsReadAs v old.now)

-- A call that finds what a store is, whatever tables it has; what is free in it, if it is an office's
-- whose tables come first; and why it is none of an office's. The store stays as it was.
pub record FindsKind {E : Type 0} (old new : State) (result : Result Found E) : Type 0 where
  pub rest : IsIdle new
  pub endures : Endures old new
  pub stays : Stays old new
  pub kind : Works new → IfOk result (λ found. IsFoundAs old.now (kind_of found))
  pub free : Works new → IfOk result (LeavesRoom old.now)
  pub flaw : Works new → IfOk result (HasFlaw old.now)

-- A call that tells what a store is, whatever tables it has. The store stays as it was.
pub record TellsKind {E : Type 0} (old new : State) (result : Result StoreKind E) : Type 0 where
  pub rest : IsIdle new
  pub endures : Endures old new
  pub stays : Stays old new
  pub kind : Works new → IfOk result (IsFoundAs old.now)

-- why a call that finds what a store is tells a fault
abbrev pub OpeningIsStopped : {S : Type 0} → (Error → Type 0) → Type 0 → Ghosts S → State → State → Fault → Type 0
OpeningIsStopped Reported Refused g old new fault = HasCause Reported Refused IsUnordered g old new fault
