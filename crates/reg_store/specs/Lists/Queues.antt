-- What is assigned to each expert, as the expert sees it.
use Rattle.std.specs.Prelude.{◌≡◌, ◌&&◌, ℕ, Bool, List, Option, Some, cond, option_map}
use Rattle.std.specs.BTreeMap.{BTreeMap, is_at}
use Rattle.std.specs.FinMap.{FinMap, get}
use Rattle.std.specs.declared.cmp.Ordering.{Ordering}
use Rattle.reg_maps.specs.Maps.{text_cmp, pair_cmp}
use Rattle.reg_maps.specs.Groups.{pair_map}
use Rattle.reg_core.specs.Queue.{queue_row}
use Rattle.reg_core.specs.View.{as_queued, queue_of}
use Rattle.reg_core.specs.World.{World, RequestName, name_cmp, seat_cmp}
use Rattle.reg_core.specs.declared.advice.Advice.{Advice}
use Rattle.reg_core.specs.declared.queue.QueueRow.{QueueRow}
use Rattle.reg_core.specs.declared.request.Case.{Case}
use Rattle.reg_core.specs.declared.request.StateWord.{StateWord}

-- an expert, and a request
abbrev pub queue_cmp : List ℕ × RequestName → List ℕ × RequestName → Ordering
queue_cmp = pair_cmp text_cmp name_cmp

-- by expert, and then by request
abbrev pub Queues : Type 0
Queues = BTreeMap (List ℕ) (BTreeMap RequestName QueueRow)

-- the rows of all queues
abbrev pub all_queues : Queues → FinMap queue_cmp QueueRow
all_queues queues = pair_map text_cmp name_cmp queues

-- the row of a request in an expert's queue, if it is there
abbrev pub row_in_queue : World → List ℕ → RequestName → Option QueueRow
row_in_queue w expert name = option_map (queue_row name) (get (queue_of expert w) name)

-- each expert's queue has just what is assigned to the expert
abbrev pub AreInStep : World → FinMap queue_cmp QueueRow → Type 0
AreInStep w rows =
    (expert : List ℕ) (name : RequestName) → get rows (expert, name) ≡ row_in_queue w expert name

-- the row of a request, if it is there, for an expert to whom it is assigned
abbrev pub row_for : FinMap name_cmp Case → FinMap seat_cmp Advice → List ℕ → RequestName
    → Option QueueRow
row_for requests advice expert name =
    option_map (λ case. queue_row name (as_queued (get advice (name, expert)) case))
    (get requests name)

-- a row with this advice, or with another word of the state
abbrev pub with_advice : Advice → QueueRow → QueueRow
with_advice advice row = record row { advice = Some advice }

abbrev pub with_word : StateWord → QueueRow → QueueRow
with_word word row = record row { word = word }

-- the rows of a request have this word in the queues of these experts, and all others stay as they were
abbrev pub AreWorded : (List ℕ → Bool) → RequestName → StateWord → FinMap queue_cmp QueueRow
    → FinMap queue_cmp QueueRow → Type 0
AreWorded experts name word old new =
    (e : List ℕ) (n : RequestName) → get new (e, n)
    ≡ cond (experts e && is_at (name_cmp name) n) (option_map (with_word word) (get old (e, n)))
    (get old (e, n))
