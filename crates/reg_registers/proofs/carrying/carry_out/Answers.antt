use Rattle.reg_registers.proofs.carrying.carry_out.Goals as goal

pub make-requires : goal.make-requires
make-requires g c = rw c.in-Make.is at c.requires

pub returns-in-Make-clause-change : goal.returns-in-Make-clause-change
returns-in-Make-clause-change g c = rw c.in-Make.is c.make.ensures
