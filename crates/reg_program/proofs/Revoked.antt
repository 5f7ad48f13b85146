-- Capabilities that are taken away by a job.
use Rattle.std.proofs.Common.{◌≡◌, ℕ, List, Bool, false, Result, Ok, inl, inr}
use Rattle.std.specs.Prelude.{⊤, IsErrAnd}
use Rattle.std.proofs.lemmas.Result.{err_from_is_err_and}
use Rattle.reg_core.specs.World.{World}
use Rattle.reg_keeper.specs.Keeper.{GoesOn}
use Rattle.reg_core.specs.declared.capability.CapRow.{CapRow}
use Rattle.reg_office.specs.Revocation.{IsCause, MayRevoke, revoked, taken}
use Rattle.reg_office.specs.declared.revocation.Choice.{Choice}
use Rattle.reg_office.specs.declared.revocation.RevokeFault.{RevokeFault}
use Rattle.reg_office.specs.declared.revocation.RevokeFault.TheVariants as no
use Rattle.reg_program.specs.Doing.{Does}
use Rattle.reg_program.specs.Revoking.{IsUnrevoked, IsUnrevokedBy}
use Rattle.reg_program.specs.Undone.{IsOfPrinting, MayUndo}
use Rattle.reg_program.specs.declared.faults.Undone.{Undone}
use Rattle.reg_program.specs.declared.faults.Undone.TheVariants.{Fault, Explained, Refused}
use Rattle.reg_program.proofs.Did.{goes_as, may_fault, may_undo}

-- why none were taken away, as the job says it
unrevoked_as : (moment : ℕ) (choice : Choice) (old new : World) (fault : RevokeFault) (why : Undone)
    → IsUnrevokedBy fault why → IsCause moment choice old fault → new ≡ old
    → IsUnrevoked moment choice old new why
unrevoked_as moment choice old new fault (Fault failure) by h same = inl same
unrevoked_as moment choice old new no.Token (Refused line) by h same = (no.Token, h, by, same)
unrevoked_as moment choice old new no.Own (Refused line) by h same = (no.Own, h, by, same)
unrevoked_as moment choice old new (no.Fault fault) _ by h same = cc
unrevoked_as moment choice old new _ _ by h same = absurd by

-- they were all taken away, and that could not be printed
pub printing_unrevoked : (moment : ℕ) (choice : Choice) (old new : World) (rows : List CapRow)
    (why : Undone) → taken moment choice old ≡ Ok rows → new ≡ revoked moment rows old
    → IsOfPrinting why → IsUnrevoked moment choice old new why
printing_unrevoked moment choice old new rows (Fault failure) chosen gone of =
    inr (rows, chosen, gone)
printing_unrevoked moment choice old new rows _ chosen gone of = absurd of

-- the store failed only where the office said so
may_unrevoke : (fails : Bool) (fault : RevokeFault) (why : Undone) → IsUnrevokedBy fault why
    → MayRevoke fails fault → MayUndo fails why
may_unrevoke fails (no.Fault fault) why by may = rw by (may_undo fails fault may)
may_unrevoke fails _ (Refused line) by may = tt
may_unrevoke fails _ (Fault failure) by may = rw by tt
may_unrevoke fails _ (Explained failure why) by may = absurd by

may_revoke_as : (fault : RevokeFault) (why : Undone) → IsUnrevokedBy fault why → MayUndo false why
    → MayRevoke false fault
may_revoke_as (no.Fault fault) why by may = may_fault fault (rw by at may)
may_revoke_as _ why by may = tt

module _ {S : Type 0} (world : S → World) (Holds Sound : S → Type 0) (fails : Bool)
    (before after : S) (moment : ℕ) (choice : Choice) where
  -- the office took none
  pub takes_none : (Done : World → World → Type 0) (result : Result ⊤ Undone) (fault : RevokeFault)
      → IsErrAnd result (IsUnrevokedBy fault)
      → (Holds after → IsCause moment choice (world before) fault)
      → (Holds after → world after ≡ world before)
      → GoesOn Holds Sound before after (MayRevoke false fault) → MayRevoke fails fault
      → Does world Holds Sound fails before after result Done
      (λ old new. IsUnrevoked moment choice old new)
  takes_none Done result fault is cause kept goes may =
      let p = err_from_is_err_and result is in
      rw p.1 (record {
        done = λ h. tt;
        undone = λ h.
            unrevoked_as moment choice (world before) (world after) fault p.0 p.2 (cause h)
            (kept h);
        premise = goes_as goes (may_revoke_as fault p.0 p.2);
        fault = may_unrevoke fails fault p.0 p.2 may;
      })
