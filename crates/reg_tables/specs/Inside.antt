-- What a call inside a transaction leaves.
use Rattle.std.specs.Prelude.{◌≤◌, Result, OnOk}
use Rattle.sqlite_trees.specs.View.{doubt}
use Rattle.sqlite.specs.State.{State, HasCleanDisk, KeepsCommit}
use Rattle.reg_tables.specs.Connection.{WentOn}

-- nothing is committed, and the transaction goes on if the call went through
pub record GoesInside {A E : Type 0} (old new : State) (result : Result A E) : Type 0 where
  pub clean : doubt old.is_clean ≤ doubt new.is_clean
  pub kept : HasCleanDisk new → KeepsCommit old new
  pub went : HasCleanDisk new → OnOk result (WentOn old new)

-- nothing is committed
pub record StaysInside (old new : State) : Type 0 where
  pub clean : doubt old.is_clean ≤ doubt new.is_clean
  pub kept : HasCleanDisk new → KeepsCommit old new
