use Rattle.std.proofs.Common.{◌≡◌, Result, Ok, take}
use Rattle.reg_keeper.specs.Keeper.{Selects}
use Rattle.reg_keeper.specs.declared.keeper.Fault.{Fault}
use Rattle.reg_core.specs.Counting.{entries_in, entry_counts}
use Rattle.reg_core.specs.declared.counts.EntryCounts.{EntryCounts}
use Rattle.reg_registers.proofs.counting.count_entries.Given as goal

abbrev pub invariant-loop-name : goal.invariant-loop-name
invariant-loop-name g l =
    let told : Result EntryCounts Fault = Ok l.counts in
    Selects g.K.Keeper.world g.K.Keeper.Holds g.K.Keeper.Sound g.K.Keeper.FAILS
    l.initial.keeper l.keeper told
    (λ w counts. counts ≡ entry_counts l.today (entries_in (take l.name-index l.names) w))
