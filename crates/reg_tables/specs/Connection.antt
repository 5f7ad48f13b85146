-- What a connection to an office's store is between two statements, and what a call leaves of it.
use Rattle.std.specs.Prelude.{◌≡◌, ◌≤◌, ℕ, Bool, false, IsTrue, List, Result, Ok, IfOk, OnOk}
use Rattle.sqlite.specs.Order.{Row}
use Rattle.sqlite.specs.State.{State, Executes, HasCleanDisk, KeepsCommit}
use Rattle.reg_tables.specs.Schema.{office_schema}

-- nothing else has written the store, it has returned what was written, and no fault has shut it
pub record Works (s : State) : Type 0 where
  pub clean : HasCleanDisk s
  pub is_open : IsTrue s.is_open

-- the store works, and its tables are the office's and no others
pub record Holds (s : State) : Type 0 where
  pub works : Works s
  pub tables : s.now.schema ≡ office_schema

-- no transaction is open, and what is seen is what was committed, whatever the tables are
pub record IsIdle (s : State) : Type 0 where
  pub autocommit : s.in_transaction ≡ false
  pub settled : Works s → s.now ≡ s.committed

-- the tables and their rows are as they were, unless the store has failed for good
pub record Stays (old new : State) : Type 0 where
  pub worked : Works new → Works old
  pub unchanged : Works new → new.now ≡ old.now

-- no doubt of the disk and no failure of it is forgotten, and only a failure of it shuts the store
pub record Endures (old new : State) : Type 0 where
  pub clean : HasCleanDisk new → HasCleanDisk old
  pub faults : old.faults ≤ new.faults
  pub stays_open : HasCleanDisk new → new.faults ≡ 0 → IsTrue old.is_open → IsTrue new.is_open

-- the premise goes on, for as long as the disk is sound
abbrev pub HoldsOn : State → State → Type 0
HoldsOn old new = HasCleanDisk new → new.faults ≡ 0 → Holds old → Holds new

-- a statement inside a transaction went through
pub record WentOn (old new : State) : Type 0 where
  pub was_open : IsTrue old.is_open
  pub is_open : IsTrue new.is_open
  pub committed : new.committed ≡ old.committed
  pub live : IsTrue new.in_transaction

-- a call that runs a statement inside a transaction, and tells of how many rows
pub record RunsInside {E : Type 0} (sql : List ℕ) (params : Row) (old new : State)
    (result : Result ℕ E) : Type 0 where
  pub endures : Endures old new
  pub kept : HasCleanDisk new → KeepsCommit old new
  pub went : HasCleanDisk new → OnOk result (WentOn old new)
  pub ran : HasCleanDisk new → IfOk result (λ count. Executes sql params old new (Ok count))

-- the answer tells whether it holds
pub record Tells (b : Bool) (P : Type 0) : Type 0 where
  pub sure : IsTrue b → P
  pub exact : P → IsTrue b
