-- What a call leaves of the device behind a store.
use Rattle.std.specs.Prelude.{◌≤◌, ◌⊎◌, IsTrue}
use Rattle.sqlite.specs.State.{State, HasCleanDisk}
use Rattle.sqlite.specs.Disk.{MoreFaults}
use Rattle.sqlite.specs.View.{doubt}

-- no fault is forgotten, and only a fault of the device shuts the store
pub record Lasts (old new : State) : Type 0 where
  pub clean : doubt old.is_clean ≤ doubt new.is_clean
  pub counts : old.faults ≤ new.faults
  pub closes : HasCleanDisk new → IsTrue old.is_open
      → IsTrue new.is_open ⊎ MoreFaults old.faults new.faults
