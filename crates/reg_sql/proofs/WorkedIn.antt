-- A log that is worked into its file.
use Rattle.std.proofs.Common.{ℕ, List, ap, subst, sym, ◌∙◌}
use Rattle.sqlite.specs.Effect.{Database}
use Rattle.sqlite.specs.Files.{AreFoundIn}
use Rattle.sqlite.specs.State.{State, HasCleanDisk}
use Rattle.sqlite_wal.specs.Recovery.{Image}
use Rattle.reg_sql.specs.Opening.{IsFoundFirst}
use Rattle.reg_sql.specs.Snapshots.{IsClosedIn, IsWorkedIn}

-- what a connection showed first, and what its file holds once it was closed
pub worked_in : (image : Image) (s : State) (bytes : List ℕ) → (HasCleanDisk s → IsFoundFirst image s)
    → IsClosedIn s bytes → IsWorkedIn image bytes
worked_in image s bytes reads closed =
    let first = reads closed.clean in
    record {
      trees = s.committed.trees;
      found = subst (λ (db : Database). AreFoundIn image db.trees) first.settled first.found.reads;
      same = λ other holds.
          ap (λ (db : Database). db.trees) (sym first.settled) ∙ first.found.holds other holds;
      holds = closed.holds;
    }
