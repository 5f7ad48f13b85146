use Rattle.reg_print.proofs.bodies.page.put_expires_if.Goals as goal

pub returns-in-Some : goal.returns-in-Some
returns-in-Some c = rw (c.in-Some.is, c.in-Some.day-is) c.put_day.ensures
