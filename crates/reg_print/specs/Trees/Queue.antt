-- The JSON of requests as their experts see them.
use Rattle.std.specs.Prelude.{List, [], ◌∷◌, map, Option, Some, option_map, codes}
use Rattle.serde_json.specs.Data.{Data, array}
use Rattle.serde_json.specs.View.{items_of}
use Rattle.reg_core.specs.Request.{state_word}
use Rattle.reg_core.specs.declared.advice.Advice.{Advice}
use Rattle.reg_core.specs.declared.queue.QueueRow.{QueueRow}
use Rattle.reg_print.specs.Trees.Advice.{advice_tree}
use Rattle.reg_print.specs.Trees.Ask.{ask_tree}
use Rattle.reg_print.specs.Trees.Members.{Listed, object_with, text}

-- the expert's own advice, where it was given
abbrev pub advice_if : Option Advice → Option Data
advice_if advice = option_map advice_tree advice

abbrev pub queue_members : QueueRow → Listed
queue_members row =
    (codes "account", text row.account)
    ∷ (codes "advice", advice_if row.advice)
    ∷ (codes "ask", Some (ask_tree row.ask))
    ∷ (codes "reference", text row.reference)
    ∷ (codes "state", text (state_word row.word))
    ∷ []

-- the JSON of a request as its expert sees it
abbrev pub queue_tree : QueueRow → Data
queue_tree row = object_with (queue_members row)

abbrev pub queues_tree : List QueueRow → Data
queues_tree rows = array (items_of (map queue_tree rows))
