use Rattle.reg_sql.proofs.look.look_by.Goals as goal

pub returns-in-Ok-look_into-clause-office : goal.returns-in-Ok-look_into-clause-office
returns-in-Ok-look_into-clause-office g c =
    let seen = c.in-Ok-look_into.ensures in (
      c.in-Ok.conn,
      c.in-Ok.ensures,
      record { opened = seen.opened; version = seen.version; ours = seen.ours },
    )

pub returns-in-Err-look_into-clause-trouble : goal.returns-in-Err-look_into-clause-trouble
returns-in-Err-look_into-clause-trouble g c =
    (c.in-Ok.conn, c.in-Ok.ensures, c.in-Err-look_into.ensures.trouble)

pub returns-in-Err-look_into-clause-cause : goal.returns-in-Err-look_into-clause-cause
returns-in-Err-look_into-clause-cause g c =
    (c.in-Ok.conn, c.in-Ok.ensures, c.in-Err-look_into.ensures.cause)
