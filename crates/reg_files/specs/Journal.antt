-- Journals of offices: what was seen in a copy.
use Rattle.std.specs.Prelude.{◌≡◌, List}
use Rattle.sqlite.specs.Files.{file_state}
use Rattle.sqlite.specs.State.{State}
use Rattle.reg_core.specs.declared.journal.Act.{Act}
use Rattle.reg_keeper.specs.Keeper.{all_acts}
use Rattle.reg_tables.specs.Connection.{Holds}
use Rattle.reg_statements.specs.Content.{world_in}
use Rattle.reg_sql.specs.declared.snapshot.Snapshot.{Snapshot}
use Rattle.reg_files.specs.Copies.{IsSeenAlone}

-- these are all acts in a store, if it still held after they were read
abbrev pub AreActsIn : State → State → List Act → Type 0
AreActsIn old new acts = Holds new → acts ≡ all_acts (world_in old)

-- An office was seen in the bytes of a copy, and these are all its acts. They are known if the store of the
-- copy still held after they were read.
pub record AreActsOf (copy : Snapshot) (acts : List Act) : Type 0 where
  pub seen : IsSeenAlone copy
  pub read : Snapshot
  pub are : AreActsIn (file_state copy.look.keeper.tables) (file_state read.look.keeper.tables) acts

-- the same of a copy that was taken
abbrev pub AreActsTaken : (Snapshot → Type 0) → List Act → Type 0
AreActsTaken Taken acts = (copy : Snapshot) × Taken copy × AreActsOf copy acts

-- and of some copy
abbrev pub AreActsOfSome : List Act → Type 0
AreActsOfSome acts = (copy : Snapshot) × AreActsOf copy acts
