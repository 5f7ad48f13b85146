-- What is made of an office of an older version.
use Rattle.std.specs.Prelude.{ℤ}
use Rattle.sqlite.specs.Effect.{Database}
use Rattle.reg_tables.specs.Editing.{IsOffice, IsOfficeOf}
use Rattle.reg_tables.specs.Making.{HasVersion, IsMigrated, IsRaised}
use Rattle.reg_tables.specs.Schema.{office_table}
use Rattle.reg_tables.specs.Version.{number_of}
use Rattle.reg_tables.specs.declared.version.Version.{Version}

-- an office with the newest tables, whose row says any version, has the newest version written into it
abbrev pub RaisesOffice : Database → Database → Type 0
RaisesOffice old new =
    (n : ℤ) → IsOffice old → HasVersion n (old.trees office_table.tree) → IsRaised old new

-- an office of a version, whose row says so, is made one of the newest
abbrev pub Migrates : Version → Database → Database → Type 0
Migrates v old new =
    IsOfficeOf v old → HasVersion (number_of v) (old.trees office_table.tree) → IsMigrated v old new
