use Rattle.reg_sql.proofs.open.open_by.Goals as goal

pub returns-in-Ok-adopt-clause-office : goal.returns-in-Ok-adopt-clause-office
returns-in-Ok-adopt-clause-office g c =
    let kept = c.in-Ok-adopt.ensures in (
      c.in-Ok.conn,
      c.in-Ok.ensures,
      record { opened = kept.opened; taken = kept.taken; live = kept.live },
    )

pub returns-in-Err-clause-refused : goal.returns-in-Err-clause-refused
returns-in-Err-clause-refused g c = (c.in-Err.ensures, c.refusal.ensures)

pub returns-in-Err-adopt-clause-refused : goal.returns-in-Err-adopt-clause-refused
returns-in-Err-adopt-clause-refused g c =
    let refused = c.in-Err-adopt.ensures in (
      c.in-Ok.conn,
      c.in-Ok.ensures,
      record { unchanged = refused.unchanged; refused = refused.refused },
    )

pub returns-in-Err-adopt-clause-cause : goal.returns-in-Err-adopt-clause-cause
returns-in-Err-adopt-clause-cause g c = (c.in-Ok.conn, c.in-Ok.ensures, c.in-Err-adopt.ensures.cause)
