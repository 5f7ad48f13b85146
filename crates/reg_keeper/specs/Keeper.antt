-- What the calls of a keeper promise.
use Rattle.std.specs.Prelude.{◌≡◌, Bool, false, true, IsTrue, List, Result, IfOk, IfErr, OnOk, OnErr}
use Rattle.reg_core.specs.Journal.{acts_where, with_acts}
use Rattle.reg_core.specs.World.{World, applied}
use Rattle.reg_core.specs.declared.change.Change.{Change}
use Rattle.reg_core.specs.declared.journal.Act.{Act}
use Rattle.reg_keeper.specs.declared.keeper.Fault.{Fault}
use Rattle.reg_keeper.specs.declared.keeper.Fault.TheVariants.{Memory, Store}

-- want of memory, or a fault of the store where the keeper has one
abbrev pub MayFault : Bool → Fault → Type 0
MayFault fails Memory = Unit {0}
MayFault fails Store = IsTrue fails

-- There was no fault but want of memory.
abbrev pub IsUnfailed : {T : Type 0} → Result T Fault → Type 0
IsUnfailed result = IfErr result (MayFault false)

-- What becomes of the premise in a step. It is true after the step only where it was before; and
-- where it was, it goes on, unless the store failed in this step, or the device behind it did.
pub record GoesOn {S : Type 0} (Holds Sound : S → Type 0) (old new : S) (Unfailed : Type 0) :
    Type 0 where
  pub before : Holds new → Holds old
  pub sound : Sound new → Sound old
  pub after : Sound new → Unfailed → Holds old → Holds new

-- A call that only looks. Under the premise after the call, what it gives is true of the content,
-- which stays as it was.
pub record Selects {S T : Type 0} (world : S → World) (Holds Sound : S → Type 0) (fails : Bool)
    (old new : S) (result : Result T Fault) (Gives : World → T → Type 0) : Type 0 where
  pub value : Holds new → IfOk result (Gives (world old))
  pub same : Holds new → world new ≡ world old
  pub premise : GoesOn Holds Sound old new (IsUnfailed result)
  pub fault : IfErr result (MayFault fails)

-- A call that makes a change. Under the premise after the call, the content is changed whole, or
-- at a fault stays as it was.
pub record Makes {S T : Type 0} (world : S → World) (Holds Sound : S → Type 0) (fails : Bool)
    (old new : S) (result : Result T Fault) (changed : World → World) : Type 0 where
  pub made : Holds new → OnOk result (world new ≡ changed (world old))
  pub kept : Holds new → OnErr result (world new ≡ world old)
  pub premise : GoesOn Holds Sound old new (IsUnfailed result)
  pub fault : IfErr result (MayFault fails)

-- the world after a change, with these acts in its journal: each comes before those that were there
abbrev pub applied_with : List Act → World → Change → World
applied_with acts w change = record (applied w change) { journal = with_acts acts w.journal }

-- all acts of a world, the oldest first
abbrev pub all_acts : World → List Act
all_acts w = acts_where (λ act. true) w
