use Rattle.reg_program.proofs.opened.do_with.Goals as goal

pub returns-clause-did : goal.returns-clause-did
returns-clause-did g c =
    rw (c.into_keeper.ensures, ← c.new-office.ensures) c.do_in-done.ensures.did

pub returns-clause-serves : goal.returns-clause-serves
returns-clause-serves g c =
    rw (c.into_keeper.ensures, ← c.new-office.ensures) c.do_in-done.ensures.serves

pub returns-clause-publishes : goal.returns-clause-publishes
returns-clause-publishes g c =
    rw (c.into_keeper.ensures, ← c.new-office.ensures) c.do_in-done.ensures.publishes
