-- When a request came, by an act of a table.
use Rattle.std.specs.Prelude.{Option, Some, None}
use Rattle.reg_core.specs.declared.journal.Arrival.{Arrival}
use Rattle.reg_records.specs.declared.acts.NumberedAct.{NumberedAct}

-- where it did so by this act, if there is one
abbrev pub arrival_by : Option NumberedAct → Arrival
arrival_by None = record { number = 0; moment = None }
arrival_by (Some n) = record { number = n.number; moment = n.act.stamp.moment }
