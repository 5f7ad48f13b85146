-- Queued requests with their names, and without.
use Rattle.std.specs.Prelude.{List, map, Some}
use Rattle.std.specs.FinMap.{FinMap, entries}
use Rattle.reg_core.specs.View.{Queued}
use Rattle.reg_core.specs.World.{RequestName, name_cmp}
use Rattle.reg_core.specs.declared.advice.Advice.{Advice}
use Rattle.reg_core.specs.declared.queue.QueueRow.{QueueRow}

-- a queued request with its name
abbrev pub queue_row : RequestName → Queued → QueueRow
queue_row name q =
    record { account = name.0; reference = name.1; ask = q.ask; word = q.word; advice = q.advice }

abbrev pub queue_rows : FinMap name_cmp Queued → List QueueRow
queue_rows m = map (λ e. queue_row e.0 e.1) (entries m)

-- a queued request after its expert gave this advice
abbrev pub with_advice : Advice → Queued → Queued
with_advice advice q = record q { advice = Some advice }
