use Rattle.std.proofs.Common.{List, ℕ, subst, sym, ◌∙◌}
use Rattle.sqlite.specs.Files.{file_state}
use Rattle.sqlite_disk.specs.Memory.{memory_bytes}
use Rattle.reg_sql.specs.Snapshots.{IsWorkedIn, image_with}
use Rattle.reg_sql.proofs.WorkedIn.{worked_in}
use Rattle.reg_sql.proofs.snapshot.worked_in.Goals as goal

pub returns-clause-worked : goal.returns-clause-worked
returns-clause-worked c =
    let image = image_with (memory_bytes c.args.files.log) (memory_bytes c.args.files.db) in
    subst (λ (bytes : List ℕ). IsWorkedIn image bytes)
    (sym (c.in_ok-from_slice.ensures.items ∙ c.bytes.ensures))
    (worked_in image (file_state c.in_ok-conn.conn) (memory_bytes c.in_ok-closed.closed)
    c.in_ok-conn.ensures.reads c.in_ok-closed.ensures.closed)
