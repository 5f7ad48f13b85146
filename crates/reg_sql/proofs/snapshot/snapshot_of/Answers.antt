use Rattle.std.proofs.Common.{List, ℕ, subst}
use Rattle.sqlite.specs.Files.{file_state}
use Rattle.sqlite_disk.specs.Memory.{memory_bytes}
use Rattle.reg_sql.specs.Looking.{IsSeenIn}
use Rattle.reg_sql.specs.Snapshots.{ReadsFiles, alone}
use Rattle.reg_sql.proofs.snapshot.snapshot_of.Goals as goal

pub returns-clause-taken : goal.returns-clause-taken
returns-clause-taken g c = λ tells.
    record {
      log = memory_bytes c.in_ok-files.files.log;
      file = memory_bytes c.in_ok-files.files.db;
      copied = c.in_ok-files.ensures.copied tells;
      worked_in = c.in_ok-bytes.ensures.worked;
    }

pub returns-clause-seen : goal.returns-clause-seen
returns-clause-seen g c =
    let look = c.in_ok-look.look in
    subst (λ (bytes : List ℕ). IsSeenIn file_state (ReadsFiles (alone bytes)) look.version look.keeper.tables)
    c.as_slice.ensures.value c.in_ok-look.ensures
