-- Where connections stand, and which of them comes next, gives way, or is dropped.
use Rattle.std.specs.Prelude.{◌≡◌, ◌-◌, ◌+◌, ◌^◌, ℕ, Bool, List, [], ◌∷◌, Option, Some, None, nat_lt, min, sum_by, ◌==◌, ◌&&◌, ◌||◌, if◌then◌else◌}
use Rattle.std.specs.Option.{option_map, option_or}
use Rattle.std.specs.Duration.{as_nanos}
use Rattle.std.specs.declared.time.Duration.{Duration}
use Rattle.reg_http.specs.declared.place.Load.{Load}
use Rattle.reg_http.specs.declared.place.Place.{Place}
use Rattle.reg_http.specs.declared.place.Stage.{Stage}
use Rattle.reg_http.specs.declared.place.Stage.TheVariants as stage
use Rattle.reg_http.specs.declared.place.Order.{Order}
use Rattle.reg_http.specs.declared.place.Order.TheVariants as order

-- what is left of a time of so many nanoseconds that began then
abbrev pub left_of : ℕ → Duration → Duration → ℕ
left_of span since now = span - (as_nanos now - as_nanos since)

-- how long there is until then; what ends never leaves all that was left before
abbrev pub sooner : ℕ → Option Duration → Duration → ℕ
sooner left None now = left
sooner left (Some last) now = min left (as_nanos last - as_nanos now)

-- how long an answer may still be taken: so long after it was made or the last of its content was taken, and not after its last moment
abbrev pub answer_left : Duration → Duration → Place → ℕ
answer_left patience now place = sooner (left_of (as_nanos patience) place.since now) place.last now

-- How long the clock still lets a connection go on that stands there: a request has the patience to come, its answer
-- has it again, and what a refused peer still sends is read for a second. None where the clock does not end it.
abbrev pub left_at : Stage → Duration → Duration → Place → Option ℕ
left_at stage.Free patience now place = None
left_at stage.Asking patience now place = Some (left_of (as_nanos patience) place.since now)
left_at (stage.Due round) patience now place = None
left_at stage.InTurn patience now place = None
left_at (stage.Answered answer) patience now place = Some (answer_left patience now place)
left_at (stage.Refused answer) patience now place = Some (left_of 1_000_000_000 place.since now)

abbrev pub time_left : Duration → Duration → Place → Option ℕ
time_left patience now place = left_at place.stage patience now place

-- a connection has had its time there
abbrev pub IsOver : Duration → Duration → Place → Type 0
IsOver patience now place = time_left patience now place ≡ Some 0

-- the lesser of two times, where there are two
abbrev pub lesser : Option ℕ → Option ℕ → Option ℕ
lesser None b = b
lesser (Some a) None = Some a
lesser (Some a) (Some b) = Some (min a b)

-- how long the clock still lets each of these connections go on, and none longer than this
abbrev pub least_from : Duration → Duration → Option ℕ → List Place → Option ℕ
least_from patience now least [] = least
least_from patience now least (place ∷ places) =
    least_from patience now (lesser least (time_left patience now place)) places

abbrev pub least_left : Duration → Duration → List Place → Option ℕ
least_left patience now places = least_from patience now None places

-- the turns that are due, by the round in which they became so, and then in the order of acceptance
abbrev pub turn_rank : Stage → ℕ → Option (ℕ × ℕ)
turn_rank stage.Free number = None
turn_rank stage.Asking number = None
turn_rank (stage.Due round) number = Some (round, number)
turn_rank stage.InTurn number = None
turn_rank (stage.Answered answer) number = None
turn_rank (stage.Refused answer) number = None

-- those that wait for a request, in the order of acceptance
abbrev pub wait_rank : Stage → ℕ → Option (ℕ × ℕ)
wait_rank stage.Free number = None
wait_rank stage.Asking number = Some (number, 0)
wait_rank (stage.Due round) number = None
wait_rank stage.InTurn number = None
wait_rank (stage.Answered answer) number = None
wait_rank (stage.Refused answer) number = None

-- those whose answer was made, in the order of their answers
abbrev pub answer_rank : Stage → Option (ℕ × ℕ)
answer_rank stage.Free = None
answer_rank stage.Asking = None
answer_rank (stage.Due round) = None
answer_rank stage.InTurn = None
answer_rank (stage.Answered answer) = Some (answer, 0)
answer_rank (stage.Refused answer) = Some (answer, 0)

-- those that can be dropped for what is kept of them, the most unsent bytes first, and then the longest request
abbrev pub weight_rank : Stage → ℕ → ℕ → Option (ℕ × ℕ)
weight_rank stage.Free asked unsent = None
weight_rank stage.Asking asked unsent = Some (2 ^ 64 - 1 - unsent, 2 ^ 64 - 1 - asked)
weight_rank (stage.Due round) asked unsent = None
weight_rank stage.InTurn asked unsent = None
weight_rank (stage.Answered answer) asked unsent = Some (2 ^ 64 - 1 - unsent, 2 ^ 64 - 1 - asked)
weight_rank (stage.Refused answer) asked unsent = None

-- places without a connection
abbrev pub free_rank : Stage → Option (ℕ × ℕ)
free_rank stage.Free = Some (0, 0)
free_rank stage.Asking = None
free_rank (stage.Due round) = None
free_rank stage.InTurn = None
free_rank (stage.Answered answer) = None
free_rank (stage.Refused answer) = None

-- the rank of a place in an order; none where it is left out
abbrev pub rank_in : Order → Place → Option (ℕ × ℕ)
rank_in order.Turn place = turn_rank place.stage place.number
rank_in order.Wait place = wait_rank place.stage place.number
rank_in order.Answer place = answer_rank place.stage
rank_in order.Weight place = weight_rank place.stage place.asked place.unsent
rank_in order.Free place = free_rank place.stage

-- one rank before another
abbrev pub is_before : ℕ × ℕ → ℕ × ℕ → Bool
is_before a b = nat_lt a.0 b.0 || (a.0 == b.0 && nat_lt a.1 b.1)

-- what is found with one place more: the first of those with the least rank
abbrev pub with_place : Option (ℕ × (ℕ × ℕ)) → ℕ → Option (ℕ × ℕ) → Option (ℕ × (ℕ × ℕ))
with_place found at None = found
with_place None at (Some rank) = Some (at, rank)
with_place (Some (had, least)) at (Some rank) =
    (if is_before rank least then Some (at, rank) else Some (had, least))

-- the same with all of these places more, the first of which is at this one
abbrev pub first_from : Order → ℕ → Option (ℕ × (ℕ × ℕ)) → List Place → Option (ℕ × (ℕ × ℕ))
first_from order at found [] = found
first_from order at found (place ∷ places) =
    first_from order (at + 1) (with_place found at (rank_in order place)) places

-- where the first of the places with the least rank in an order is; none where all are left out
abbrev pub first_in : Order → List Place → Option ℕ
first_in order places = option_map (λ (found : ℕ × (ℕ × ℕ)). found.0) (first_from order 0 None places)

-- how many connections there wait for a request
abbrev pub asking : Stage → ℕ
asking stage.Free = 0
asking stage.Asking = 1
asking (stage.Due round) = 0
asking stage.InTurn = 0
asking (stage.Answered answer) = 0
asking (stage.Refused answer) = 0

abbrev pub one_if_asking : Place → ℕ
one_if_asking place = asking place.stage

-- The place that a new connection takes: where fewer than 512 wait for a request, that of the answer that was made
-- first, if one was; else that of the one that was accepted first of those that wait.
abbrev pub giving_way : List Place → Option ℕ
giving_way places =
    (if nat_lt (sum_by one_if_asking places) 512
    then option_or (first_in order.Answer places) (first_in order.Wait places)
    else first_in order.Wait places)

-- one where some of an answer is unsent
abbrev pub one_if_unsent : Place → ℕ
one_if_unsent place = (if nat_lt 0 place.unsent then 1 else 0)

-- what is kept of one connection more, each number at most the largest that there is
abbrev pub with_load : Load → Place → Load
with_load load place = record {
  asked = min (load.asked + place.asked) (2 ^ 64 - 1);
  unsent = min (load.unsent + place.unsent) (2 ^ 64 - 1);
  answers = min (load.answers + one_if_unsent place) (2 ^ 64 - 1);
}

abbrev pub load_from : Load → List Place → Load
load_from load [] = load
load_from load (place ∷ places) = load_from (with_load load place) places

-- what is kept of these connections
abbrev pub load_of : List Place → Load
load_of places = load_from (record { asked = 0; unsent = 0; answers = 0 }) places

-- more bytes of requests than 64,000,000, or of them and of two unsent answers or more
abbrev pub is_too_heavy : Load → Bool
is_too_heavy load =
    nat_lt 64_000_000 load.asked
    || (nat_lt 1 load.answers && nat_lt 64_000_000 (load.asked + load.unsent))
