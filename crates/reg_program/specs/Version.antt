-- What is printed of the version of the program.
use Rattle.std.specs.Prelude.{ℕ, List, ◌++◌, codes}
use Rattle.std.specs.Fmt.{signed_decimal}
use Rattle.reg_jobs.specs.declared.jobs.TheConstants.{VERSION}
use Rattle.reg_program.specs.declared.version.TheConstants.{OFFICE_VERSION}

-- the version of the program, and that of the offices that it keeps
abbrev pub version_line : List ℕ
version_line =
    codes "reg_cli " ++ (VERSION.now ++ (codes " (office version "
    ++ (signed_decimal OFFICE_VERSION ++ codes ")\n")))
