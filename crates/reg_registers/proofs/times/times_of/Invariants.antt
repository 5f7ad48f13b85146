use Rattle.std.proofs.Common.{◌≡◌, Result, Ok, map, take}
use Rattle.reg_keeper.specs.Keeper.{Selects}
use Rattle.reg_keeper.specs.declared.keeper.Fault.{Fault}
use Rattle.reg_registers.specs.Answers.{row_of_times}
use Rattle.reg_registers.proofs.times.times_of.Given as goal

abbrev pub invariant-loop-request : goal.invariant-loop-request
invariant-loop-request g l =
    let done : Result (Unit {0}) Fault = Ok tt in
    Selects g.K.Keeper.world g.K.Keeper.Holds g.K.Keeper.Sound g.K.Keeper.FAILS
    l.initial.keeper l.keeper done
    (λ w done. l.rows.items ≡ map (row_of_times w) (take l.request-index l.requests))
