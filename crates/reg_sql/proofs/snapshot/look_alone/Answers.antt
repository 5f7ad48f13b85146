use Rattle.std.proofs.Common.{ap₂, subst}
use Rattle.sqlite.specs.Files.{file_state}
use Rattle.sqlite_wal.specs.Recovery.{Image}
use Rattle.reg_sql.specs.Opening.{IsFoundFirst}
use Rattle.reg_sql.specs.Snapshots.{image_with}
use Rattle.reg_sql.proofs.snapshot.look_alone.Goals as goal

pub returns-in-Ok : goal.returns-in-Ok
returns-in-Ok c =
    let found = c.in-Ok.ensures in (
      c.in_ok-conn.conn,
      (λ clean. subst (λ (image : Image). IsFoundFirst image (file_state c.in_ok-conn.conn))
          (ap₂ image_with c.new-log.ensures.empty c.in_ok-db.ensures.bytes)
          (c.in_ok-conn.ensures.reads clean)),
      record { opened = found.opened; version = found.version; ours = found.ours },
    )
