-- A request in the queue of an expert, by the seats and the requests.
use Rattle.std.proofs.Common.{◌≡◌, true, false, List, ℕ, refl, ap, ◌∙◌}
use Rattle.std.proofs.Common.{Option, Some, None, is_some, option_map, option_and_then}
use Rattle.std.specs.FinMap.{contains_key, get}
use Rattle.reg_maps.specs.Maps.{only_if}
use Rattle.reg_core.specs.View.{Queued, as_queued, queue_of}
use Rattle.reg_core.specs.World.{RequestName, World}
use Rattle.reg_core.specs.declared.request.Case.{Case}
use Rattle.reg_core.proofs.Queues.{get-queue_of}
use Rattle.reg_rows.specs.Seats.{assigned_to}
use Rattle.reg_rows.proofs.Found.{each_passes, none_passes}

-- a request is in the queue where it is assigned
queued_at : (w : World) (expert : List ℕ) (name : RequestName)
    → get (queue_of expert w) name
    ≡ option_and_then (λ q. only_if (contains_key w.queue (name, expert)) q)
    (assigned_to expert w name)
queued_at w expert name =
    get-queue_of expert w name ∙ by (get w.requests name)
  where
    by : (o : Option Case)
        → option_and_then (λ case. only_if (contains_key w.queue (name, expert))
        (as_queued (get w.advice (name, expert)) case)) o
        ≡ option_and_then (λ q. only_if (contains_key w.queue (name, expert)) q)
        (option_map (as_queued (get w.advice (name, expert))) o)
    by None = refl
    by (Some case) = refl

pub not_assigned : (w : World) (expert : List ℕ) (name : RequestName)
    → contains_key w.queue (name, expert) ≡ false → get (queue_of expert w) name ≡ None
not_assigned w expert name other =
    queued_at w expert name
    ∙ ap (λ b. option_and_then (λ q. only_if b q) (assigned_to expert w name)) other
    ∙ none_passes (assigned_to expert w name)

pub is_assigned : (w : World) (expert : List ℕ) (name : RequestName)
    → contains_key w.queue (name, expert) ≡ true
    → get (queue_of expert w) name ≡ assigned_to expert w name
is_assigned w expert name own =
    queued_at w expert name
    ∙ ap (λ b. option_and_then (λ q. only_if b q) (assigned_to expert w name)) own
    ∙ each_passes (assigned_to expert w name)

swapped : (seat : Option (Unit {0})) (o : Option Queued)
    → option_and_then (λ q. only_if (is_some seat) q) o ≡ option_and_then (λ x. o) seat
swapped None o = none_passes o
swapped (Some x) o = each_passes o

-- what the queue has of a request, by its seat
pub by_seat : (w : World) (expert : List ℕ) (name : RequestName)
    → get (queue_of expert w) name
    ≡ option_and_then (λ x. assigned_to expert w name) (get w.queue (name, expert))
by_seat w expert name =
    queued_at w expert name ∙ swapped (get w.queue (name, expert)) (assigned_to expert w name)
