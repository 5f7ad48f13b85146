-- Jobs over an office, a call at a time.
use Rattle.std.proofs.Common.{◌≡◌, Bool, false, Result, Ok, Err}
use Rattle.std.specs.Prelude.{⊤, IsErrAnd, IfErr, OnOk}
use Rattle.std.proofs.lemmas.Result.{err_from_is_err_and}
use Rattle.reg_core.specs.World.{World}
use Rattle.reg_keeper.specs.Keeper.{GoesOn, MayFault}
use Rattle.reg_keeper.specs.declared.keeper.Fault.{Fault as KeeperFault}
use Rattle.reg_keeper.specs.declared.keeper.Fault.TheVariants as keeper
use Rattle.reg_program.specs.Doing.{Does}
use Rattle.reg_program.specs.Undone.{IsOfPrinting, IsOfStoreOrPrinting, MayUndo, failure_of}
use Rattle.reg_program.specs.declared.faults.JobFailure.{JobFailure}
use Rattle.reg_program.specs.declared.faults.JobFailure.TheVariants as failure
use Rattle.reg_program.specs.declared.faults.Undone.{Undone}
use Rattle.reg_program.specs.declared.faults.Undone.TheVariants.{Fault}

-- ---- Faults

pub may_undo : (fails : Bool) (fault : KeeperFault) → MayFault fails fault
    → MayUndo fails (Fault (failure_of fault))
may_undo fails keeper.Memory h = tt
may_undo fails keeper.Store h = h

pub may_fault : (fault : KeeperFault) → MayUndo false (Fault (failure_of fault))
    → MayFault false fault
may_fault keeper.Memory h = tt
may_fault keeper.Store h = h

printing_fails : (fails : Bool) (why : JobFailure) → IsOfPrinting (Fault why)
    → MayUndo fails (Fault why)
printing_fails fails failure.Store h = absurd h
printing_fails fails _ h = tt

pub printing_may : (fails : Bool) (why : Undone) → IsOfPrinting why → MayUndo fails why
printing_may fails (Fault why) h = printing_fails fails why h
printing_may fails _ h = absurd h

pub write_may : (fails : Bool) (why : Undone) → why ≡ Fault failure.Write → MayUndo fails why
write_may fails why h = rw h tt

-- output that could not be written is of printing
pub write_prints : (why : Undone) → why ≡ Fault failure.Write → IsOfPrinting why
write_prints why h = rw h tt

-- ---- Faults of a store or of printing

pub fault_is_common : (fault : KeeperFault) → IsOfStoreOrPrinting (Fault (failure_of fault))
fault_is_common keeper.Memory = tt
fault_is_common keeper.Store = tt

printing_common : (why : JobFailure) → IsOfPrinting (Fault why) → IsOfStoreOrPrinting (Fault why)
printing_common failure.Memory h = tt
printing_common failure.Write h = tt
printing_common _ h = absurd h

pub printing_is_common : (why : Undone) → IsOfPrinting why → IsOfStoreOrPrinting why
printing_is_common (Fault why) h = printing_common why h
printing_is_common _ h = absurd h

-- ---- The premise

module _ {S : Type 0} {Holds Sound : S → Type 0} {old new : S} where
  -- it goes on under less
  pub goes_as : {P Q : Type 0} → GoesOn Holds Sound old new P → (Q → P)
      → GoesOn Holds Sound old new Q
  goes_as step h = record {
    before = step.before;
    sound = step.sound;
    after = λ sound q holds. step.after sound (h q) holds;
  }

-- ---- Jobs

module _ {S : Type 0} (world : S → World) (Holds Sound : S → Type 0) (fails : Bool)
    (before after : S) (Done : World → World → Type 0) (Fails : World → World → Undone → Type 0)
  where
    -- an office had a fault
    pub stops : {T : Type 0} (result : Result T Undone) (fault : KeeperFault)
        → IsErrAnd result (λ why. why ≡ Fault (failure_of fault))
        → GoesOn Holds Sound before after (MayFault false fault) → MayFault fails fault
        → (Holds after → Fails (world before) (world after) (Fault (failure_of fault)))
        → Does world Holds Sound fails before after result Done Fails
    stops result fault is goes may fails_so =
        let p = err_from_is_err_and result is in
        rw (p.1, p.2) (record {
          done = λ h. tt;
          undone = fails_so;
          premise = goes_as goes (may_fault fault);
          fault = may_undo fails fault may;
        })

    -- why it is not done is not of the office
    pub undone_by : {T : Type 0} (result : Result T Undone) (why : Undone)
        → IsErrAnd result (λ is. is ≡ why) → GoesOn Holds Sound before after ⊤
        → MayUndo fails why → (Holds after → Fails (world before) (world after) why)
        → Does world Holds Sound fails before after result Done Fails
    undone_by result why is goes may fails_so =
        let p = err_from_is_err_and result is in
        rw (p.1, p.2) (record {
          done = λ h. tt;
          undone = fails_so;
          premise = goes_as goes (λ _. tt);
          fault = may;
        })

    -- it ends by a call of which an error is of these kinds
    pub ends_by : (Why : Undone → Type 0) (result : Result ⊤ Undone) (Printed : Type 0)
        → OnOk result Printed → IfErr result Why → ((why : Undone) → Why why → MayUndo fails why)
        → GoesOn Holds Sound before after ⊤
        → (Holds after → Printed → Done (world before) (world after))
        → (Holds after → (why : Undone) → Why why → Fails (world before) (world after) why)
        → Does world Holds Sound fails before after result Done Fails
    ends_by Why (Ok u) Printed ok err may goes done_so fails_so = record {
      done = λ h. done_so h ok;
      undone = λ h. tt;
      premise = goes_as goes (λ _. tt);
      fault = tt;
    }
    ends_by Why (Err why) Printed ok err may goes done_so fails_so = record {
      done = λ h. tt;
      undone = λ h. fails_so h why err;
      premise = goes_as goes (λ _. tt);
      fault = may why err;
    }

    -- it ends by printing
    pub ends_printing : (result : Result ⊤ Undone) (Printed : Type 0) → OnOk result Printed
        → IfErr result IsOfPrinting → GoesOn Holds Sound before after ⊤
        → (Holds after → Printed → Done (world before) (world after))
        → (Holds after → (why : Undone) → IsOfPrinting why
        → Fails (world before) (world after) why)
        → Does world Holds Sound fails before after result Done Fails
    ends_printing result Printed ok err = ends_by IsOfPrinting result Printed ok err (printing_may fails)
