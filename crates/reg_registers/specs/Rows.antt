-- Rows after what is told of them.
use Rattle.std.specs.Prelude.{Bool, Some}
use Rattle.reg_early.specs.Terms.{held_term}
use Rattle.reg_core.specs.declared.advice.Advice.{Advice}
use Rattle.reg_core.specs.declared.entry.Entry.{Entry}
use Rattle.reg_core.specs.declared.holding.Holding.{Holding}
use Rattle.reg_core.specs.declared.queue.QueueRow.{QueueRow}

-- a queued request after its expert gave this advice
abbrev pub advised_row : Advice → QueueRow → QueueRow
advised_row advice row = record row { advice = Some advice }

-- a block with its holder after this mark was set
abbrev pub marked_row : Bool → Holding → Holding
marked_row private row = record row { private = private }

-- an entry after this mark was set
abbrev pub held_row : Bool → Entry → Entry
held_row held row = record row { term = held_term held row.term }
