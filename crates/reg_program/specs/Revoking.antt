-- The job that takes capabilities away.
use Rattle.std.specs.Prelude.{◌≡◌, ◌⊎◌, ℕ, false, List, Option, Ok, Err, codes}
use Rattle.reg_core.specs.Names.{is_name}
use Rattle.reg_core.specs.World.{World}
use Rattle.reg_core.specs.declared.refusal.Refusal.TheVariants.{Own}
use Rattle.reg_core.specs.declared.capability.CapRow.{CapRow}
use Rattle.reg_office.specs.Revocation.{HasClerkAt, revoked, taken}
use Rattle.reg_office.specs.declared.revocation.Choice.{Choice}
use Rattle.reg_office.specs.declared.revocation.RevokeFault.{RevokeFault}
use Rattle.reg_office.specs.declared.revocation.RevokeFault.TheVariants as no
use Rattle.reg_program.specs.Printing.{Prints}
use Rattle.reg_program.specs.Tokens.{IsTokenTable}
use Rattle.reg_program.specs.Undone.{IsSaidBy, failure_of, refusal_line}
use Rattle.reg_program.specs.declared.faults.Undone.{Undone}
use Rattle.reg_program.specs.declared.faults.Undone.TheVariants.{Fault, Explained, Refused}

-- the line where none may be taken
abbrev pub no_token : List ℕ
no_token = codes "404 {\"error\":\"token\"}"

-- those that may go are gone, in one change of the model, a valid clerk is left, and they are
-- printed
pub record Revokes (moment : ℕ) (choice : Choice) (had has : Option (List ℕ)) (old new : World) :
    Type 0 where
  pub rows : List CapRow
  pub chosen : taken moment choice old ≡ Ok rows
  pub gone : new ≡ revoked moment rows old
  pub clerk : HasClerkAt moment new
  pub prints : Prints had has (IsTokenTable rows)

-- why the office took none, as a job says it
abbrev pub IsUnrevokedBy : RevokeFault → Undone → Type 0
IsUnrevokedBy no.Token undone = IsSaidBy no_token undone
IsUnrevokedBy no.Own undone = IsSaidBy (refusal_line Own) undone
IsUnrevokedBy (no.Fault fault) undone = undone ≡ Fault (failure_of fault)

-- A line says by which of both causes none may be taken, and nothing has changed; or there was a
-- fault, and nothing has changed or all that may go are gone.
abbrev pub IsUnrevoked : ℕ → Choice → World → World → Undone → Type 0
IsUnrevoked moment choice old new (Refused line) =
    (cause : RevokeFault) × (taken moment choice old ≡ Err cause)
    × IsUnrevokedBy cause (Refused line) × (new ≡ old)
IsUnrevoked moment choice old new (Fault failure) =
    (new ≡ old)
    ⊎ ((rows : List CapRow) × (taken moment choice old ≡ Ok rows) × (new ≡ revoked moment rows old))
IsUnrevoked moment choice old new (Explained failure why) = ⊥

-- a line says that no capability is of such a name; or there was no memory
abbrev pub IsUnnamed : List ℕ → Undone → Type 0
IsUnnamed name undone = (is_name name ≡ false) × IsSaidBy no_token undone
