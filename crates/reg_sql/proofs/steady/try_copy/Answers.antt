use Rattle.sqlite_disk.specs.Memory.{memory_bytes}
use Rattle.reg_sql.proofs.Tried.{of_these, steady, unsteady}
use Rattle.reg_sql.proofs.steady.try_copy.Goals as goal

pub returns-then-branch-clause-tried : goal.returns-then-branch-clause-tried
returns-then-branch-clause-tried g c = λ tells.
    let header = memory_bytes c.in_ok-header.header in
    let file = memory_bytes c.in_ok-db.db in
    let log = memory_bytes c.in_ok-log.log in
    let readings = g.O.Original.readings in
    let third = readings c.log.new.self in
    let new = readings c.is_as_before.new.original in
    steady header file log c.in_ok-is_as_before.field-0 (readings c.args.original.now)
    (readings c.header.new.self) (readings c.file.new.self) third new
    (c.in_ok-header.ensures.read tells) (c.in_ok-db.ensures.read tells)
    (c.in_ok-log.ensures.read tells)
    (of_these c.bytes.result.now header c.bytes-2.result.now file c.in_ok-is_as_before.field-0 third new
    c.bytes.ensures c.bytes-2.ensures (c.in_ok-is_as_before.ensures.told tells)) c.if-branch.true

pub returns-clause-tried : goal.returns-clause-tried
returns-clause-tried g c = λ tells.
    let header = memory_bytes c.in_ok-header.header in
    let file = memory_bytes c.in_ok-db.db in
    let log = memory_bytes c.in_ok-log.log in
    let readings = g.O.Original.readings in
    let third = readings c.log.new.self in
    let new = readings c.is_as_before.new.original in
    unsteady header file log c.in_ok-is_as_before.field-0 (readings c.args.original.now)
    (readings c.header.new.self) (readings c.file.new.self) third new
    (c.in_ok-header.ensures.read tells) (c.in_ok-db.ensures.read tells)
    (c.in_ok-log.ensures.read tells)
    (of_these c.bytes.result.now header c.bytes-2.result.now file c.in_ok-is_as_before.field-0 third new
    c.bytes.ensures c.bytes-2.ensures (c.in_ok-is_as_before.ensures.told tells)) c.if-branch.false
