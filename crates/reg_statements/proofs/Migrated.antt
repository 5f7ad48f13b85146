-- An older office holds the same when its tables are the newest's.
use Rattle.std.proofs.Common.{◌≡◌, ℤ, List, drop, Some, sym, ap, subst}
use Rattle.std.specs.List.{AllByRecursion}
use Rattle.sqlite.specs.declared.types.Value.TheVariants.{Int}
use Rattle.sqlite.specs.Effect.{Database}
use Rattle.sqlite.specs.Order.{Row}
use Rattle.sqlite.specs.Tree.{Trees}
use Rattle.sqlite.specs.declared.types.Value.{Value}
use Rattle.reg_records.specs.Columns.{int_in}
use Rattle.reg_tables.specs.Making as making
use Rattle.reg_tables.specs.Making.{IsMigrated}
use Rattle.reg_tables.specs.Schema.{office_schema, office_table}
use Rattle.reg_tables.specs.Version.{newest, number_of, rows_of}
use Rattle.reg_tables.specs.declared.version.Version.{Version}
use Rattle.reg_tables.specs.declared.version.Version.TheVariants.{First}
use Rattle.reg_tables.proofs.MigrateLemmas.{rows_migrated}
use Rattle.reg_statements.specs.Content.{AreKept, HasVersionRow, IsStored, IsStoredAs}
use Rattle.reg_statements.specs.Content.{content, content_at}
use Rattle.reg_statements.specs.Tables.{Tables, tables_in}

-- each table but the office's has these rows
tables_same : (held new : Trees)
    → AllByRecursion (λ t. new t.tree ≡ held t.tree) (drop 1 office_schema.tables)
    → tables_in new ≡ record (tables_in held) { office = new office_table.tree }
tables_same held new rows = λ i. record {
  office = new office_table.tree;
  caps = rows.0 i;
  registries = rows.1.0 i;
  ranges = rows.1.1.0 i;
  entries = rows.1.1.1.0 i;
  requests = rows.1.1.1.1.0 i;
  queue = rows.1.1.1.1.1.0 i;
  advice = rows.1.1.1.1.1.1.0 i;
  pool = rows.1.1.1.1.1.1.1.0 i;
  blocks = rows.1.1.1.1.1.1.1.1.0 i;
  holds = rows.1.1.1.1.1.1.1.1.1.0 i;
  minutes = rows.1.1.1.1.1.1.1.1.1.1.0 i;
  agents = rows.1.1.1.1.1.1.1.1.1.1.1.0 i;
  journal = rows.1.1.1.1.1.1.1.1.1.1.1.1.0 i;
}

kept_with : (v w : Version) (t : Tables) (rows : List Row) → AreKept v t
    → HasVersionRow (number_of w) rows → AreKept w (record t { office = rows })
kept_with v w t rows kept version =
    record { whole = (version, kept.whole.1); tied = kept.tied }

-- ---- What is asked of a migration

int_is : (value : Value) (n : ℤ) → int_in value ≡ Some n → value ≡ Int n
int_is (Int m) n e = let same : m ≡ n = cc in ap Int same
int_is _ n e = absurd (cc)

pub version_is : (n : ℤ) (rows : List Row) → HasVersionRow n rows → making.HasVersion n rows
version_is n rows version = record {
  row = version.0;
  only = version.1;
  says = int_is _ n version.2;
}

pub stored_version : (v : Version) (db : Database) → IsStoredAs v db
    → making.HasVersion (number_of v) (db.trees office_table.tree)
stored_version First db stored = version_is _ _ stored.kept.whole.0
stored_version _ db stored = version_is _ _ stored.kept.whole.0

-- ---- What it leaves

-- the rows are an office's of the newest version, and what they hold is the same
pub migrated_same : (v : Version) (old new : Database) → IsStoredAs v old → IsMigrated v old new
    → IsStored new × (content_at newest new ≡ content_at v old)
migrated_same v old new stored is =
    let same = tables_same (rows_of v old.trees) new.trees (rows_migrated v old new is) in (
      record {
        office = is.office;
        kept = subst (AreKept newest) (sym same)
            (kept_with v newest (tables_in (rows_of v old.trees)) (new.trees office_table.tree)
            stored.kept (is.version.row, is.version.only, ap int_in is.version.says));
      },
      ap content same,
    )
