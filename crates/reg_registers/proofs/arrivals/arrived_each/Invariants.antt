use Rattle.std.proofs.Common.{◌≡◌, Result, Ok, map}
use Rattle.reg_keeper.specs.Keeper.{Selects}
use Rattle.reg_keeper.specs.declared.keeper.Fault.{Fault}
use Rattle.reg_registers.specs.Arrivals.{arrived_in}
use Rattle.reg_registers.proofs.arrivals.arrived_each.Given as goal

abbrev pub invariant-loop-file : goal.invariant-loop-file
invariant-loop-file g l =
    let done : Result (Unit {0}) Fault = Ok tt in
    Selects g.K.Keeper.world g.K.Keeper.Holds g.K.Keeper.Sound g.K.Keeper.FAILS
    l.fn.keeper l.keeper done
    (λ w done. l.arrived.items ≡ map (arrived_in w) l.yielded)
