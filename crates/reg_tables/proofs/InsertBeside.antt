-- The row of the version comes to its table wherever that stands.
use Rattle.std.proofs.Common.{◌≡◌, ℕ, Ok, Some, slice_get, refl}
use Rattle.sqlite.specs.Command.TheVariants.{Insert}
use Rattle.sqlite.specs.Listing.{understood}
use Rattle.sqlite.specs.Schema.{Schema}
use Rattle.sqlite.specs.Source.TheVariants.{Values}
use Rattle.sqlite.specs.State.{State, Executes}
use Rattle.sqlite.proofs.Callers.{IsPlain, command_of}
use Rattle.sqlite_schema.specs.Names.{table_named}
use Rattle.sqlite_tied.specs.Compute.{everything}
use Rattle.reg_tables.specs.Making.{AddsVersion, version_row}
use Rattle.reg_tables.specs.Schema.{office_table}
use Rattle.reg_tables.specs.declared.texts.TheConstants as texts
use Rattle.reg_tables.specs.Version.{newest, number_of}
use Rattle.reg_tables.proofs.GivenRows.{given_terms}
use Rattle.reg_tables.proofs.InsertLemmas.{AddsTo, adds_to}
use Rattle.reg_tables.proofs.Library.Casts.{cast_int, cast_null}

module _ (schema : Schema) (at k : ℕ) (named : table_named schema office_table.name ≡ Some at)
    (there : slice_get schema.tables at ≡ Some (record office_table { tree = k })) where
  says_version : command_of (understood schema texts.INSERT_VERSION.now)
      ≡ Insert at (Values (given_terms 1) 2)
  unfolding understood everything
  says_version = rw (named, there) refl

  plainly : IsPlain (understood schema texts.INSERT_VERSION.now)
  unfolding understood everything
  plainly = rw (named, there) (refl, refl)

  adds_there : AddsTo schema texts.INSERT_VERSION.now at (record office_table { tree = k }) (given_terms 1)
      version_row
  adds_there = record {
    slot = there;
    is = says_version;
    plain = plainly;
    counts = refl;
    source = refl;
    casts = λ rows. rw (cast_null, cast_int (number_of newest)) refl;
  }

pub adds_version_there : (old new : State) (count : ℕ)
    → Executes texts.INSERT_VERSION.now version_row old new (Ok count) → AddsVersion old.now new.now
adds_version_there old new count ran at k named there =
    adds_to old.now.schema texts.INSERT_VERSION.now at (record office_table { tree = k }) (given_terms 1)
    version_row (adds_there old.now.schema at k named there) old new count refl ran
