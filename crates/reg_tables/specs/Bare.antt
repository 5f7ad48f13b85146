-- Tables that compute nothing.
use Rattle.std.specs.Prelude.{◌≡◌, []}
use Rattle.std.specs.List.{AllByRecursion}
use Rattle.sqlite.specs.declared.types.Value.TheVariants.{Null}
use Rattle.sqlite.specs.Table.{Table}
use Rattle.sqlite_schema.specs.declared.schema.Column.{Column}
use Rattle.sqlite_schema.specs.declared.schema.Stamps.{Stamps}

-- a column without a default
abbrev pub IsBareColumn : Column → Type 0
IsBareColumn c = c.default ≡ Null

-- no default reads the time
abbrev pub no_stamps : Stamps
no_stamps = record { places = []; terms = []; formats = [] }

-- a table without defaults, CHECK and computed columns
pub record IsBareTable (t : Table) : Type 0 where
  pub columns : AllByRecursion IsBareColumn t.columns
  pub checks : t.checks ≡ []
  pub computed : t.computed ≡ []
  pub stamps : t.stamps ≡ no_stamps
