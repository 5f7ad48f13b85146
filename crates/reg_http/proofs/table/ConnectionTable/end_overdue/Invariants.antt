use Rattle.std.proofs.Common.{◌≡◌, ℕ, ◌<◌, length}
use Rattle.reg_http.specs.Schedules.{IsOverAt}
use Rattle.reg_http.proofs.table.ConnectionTable.end_overdue.Given as goal

-- nobody is over at the places that were looked at
abbrev pub invariant-loop-at : goal.invariant-loop-at
invariant-loop-at g l = record {
  counters : l.self.schedule.counters ≡ l.initial.self.schedule.counters;
  same : length l.self.schedule.places.items ≡ l.at-end;
  seen : (n : ℕ) → n < l.at
      → IsOverAt l.self.schedule.counters.patience l.self.schedule.counters.now
      l.self.schedule.places.items n → ⊥;
}
