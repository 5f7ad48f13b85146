use Rattle.std.specs.Prelude.{◌-◌, ◌^◌, length, List}
use Rattle.reg_changes.specs.declared.change.HistoryRecord.{HistoryRecord}
use Rattle.reg_history.specs.History.{IsHistory, TakesRecord}
use Rattle.reg_history.specs.Reading.{IsAt}
use Rattle.reg_history.proofs.history.History.take.Given as goal

abbrev pub invariant-loop-rest : goal.invariant-loop-rest
invariant-loop-rest l =
    (records : List HistoryRecord) → IsHistory l.fn.self records
    → TakesRecord l.self records l.fn.text l.rest × IsAt l.records l.rest

abbrev pub decreases-loop-rest : goal.decreases-loop-rest
decreases-loop-rest l = 2 ^ 64 - length l.self.chain.digests.items
