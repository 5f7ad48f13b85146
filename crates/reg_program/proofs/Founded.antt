-- Offices that a job founds.
use Rattle.std.proofs.Common.{◌≡◌, ℕ, List, Bool, false, Result, refl, inl}
use Rattle.std.specs.Prelude.{⊤, IsErrAnd}
use Rattle.std.proofs.lemmas.Result.{err_from_is_err_and}
use Rattle.reg_core.specs.World.{World}
use Rattle.reg_keeper.specs.Keeper.{GoesOn}
use Rattle.reg_office.specs.Found.{IsCause, MayFound}
use Rattle.reg_office.specs.declared.found.FoundFault.{FoundFault}
use Rattle.reg_office.specs.declared.found.FoundFault.TheVariants as found
use Rattle.reg_program.specs.Doing.{Does}
use Rattle.reg_program.specs.Founding.{IsUnready}
use Rattle.reg_program.specs.Undone.{MayUndo, found_failure}
use Rattle.reg_program.specs.declared.faults.Undone.{Undone}
use Rattle.reg_program.specs.declared.faults.Undone.TheVariants.{Fault}
use Rattle.reg_program.proofs.Did.{goes_as, may_fault, may_undo}

may_found : (fails : Bool) (fault : FoundFault) → MayFound fails fault
    → MayUndo fails (Fault (found_failure fault))
may_found fails (found.Fault fault) h = may_undo fails fault h
may_found fails _ h = tt

may_have_found : (fault : FoundFault) → MayUndo false (Fault (found_failure fault))
    → MayFound false fault
may_have_found (found.Fault fault) h = may_fault fault h
may_have_found _ h = tt

module _ {S : Type 0} (world : S → World) (Holds Sound : S → Type 0) (fails : Bool)
    (before after : S) (moment : ℕ) (token : List ℕ) where
  -- no first clerk was made
  pub founds_none : (Done : World → World → Type 0) (result : Result ⊤ Undone) (fault : FoundFault)
      → IsErrAnd result (λ why. why ≡ Fault (found_failure fault))
      → (Holds after → IsCause (world before) token fault)
      → (Holds after → world after ≡ world before)
      → GoesOn Holds Sound before after (MayFound false fault) → MayFound fails fault
      → Does world Holds Sound fails before after result Done
      (λ old new. IsUnready moment token old new)
  founds_none Done result fault is cause kept goes may =
      let p = err_from_is_err_and result is in
      rw (p.1, p.2) (record {
        done = λ h. tt;
        undone = λ h. inl (fault, refl, cause h, kept h);
        premise = goes_as goes (may_have_found fault);
        fault = may_found fails fault may;
      })
