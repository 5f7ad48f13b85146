-- What the program says of the offices in files.
use Rattle.std.specs.Prelude.{◌≡◌}
use Rattle.reg_program.specs.declared.version.TheConstants.{OFFICE_VERSION}
use Rattle.reg_tables.specs.Version.{newest, number_of}

-- the version that the program prints is that of the tables
abbrev pub OfficeVersionIsTheNewest : Type 0
OfficeVersionIsTheNewest = OFFICE_VERSION ≡ number_of newest
