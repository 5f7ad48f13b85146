-- What a schedule says of the connection at a place.
use Rattle.std.specs.Prelude.{◌≡◌, ℕ, Bool, true, false, List, Option, Some, None, length, slice_get}
use Rattle.std.specs.Option.{IsSomeAnd, option_map}
use Rattle.std.specs.declared.time.Duration.{Duration}
use Rattle.reg_http.specs.Places.{IsOver}
use Rattle.reg_http.specs.declared.place.Place.{Place}
use Rattle.reg_http.specs.declared.place.Stage.{Stage}
use Rattle.reg_http.specs.declared.place.Stage.TheVariants as stage

-- where the connection of a place stands; free where there is no such place
abbrev pub stage_in : Option Place → Stage
stage_in None = stage.Free
stage_in (Some place) = place.stage

abbrev pub stage_at : List Place → ℕ → Stage
stage_at places at = stage_in (slice_get places at)

-- there is a connection at this place that has had its time
abbrev pub IsOverAt : Duration → Duration → List Place → ℕ → Type 0
IsOverAt patience now places at = IsSomeAnd (slice_get places at) (IsOver patience now)

-- no connection has
abbrev pub NobodyIsOver : Duration → Duration → List Place → Type 0
NobodyIsOver patience now places = (at : ℕ) → IsOverAt patience now places at → ⊥

-- only the connection at this place may stand otherwise
pub record SameBut (at : ℕ) (before after : List Place) : Type 0 where
  pub length : length after ≡ length before
  pub others : (n : ℕ) → (n ≡ at → ⊥) → slice_get after n ≡ slice_get before n

-- a connection that was accepted then, after so many others
abbrev pub asks_since : Duration → ℕ → Place
asks_since now number = record {
  stage = stage.Asking;
  number = number;
  since = now;
  last = None;
  asked = 0;
  unsent = 0;
}

-- there is no connection
abbrev pub free_stage : Stage → Bool
free_stage stage.Free = true
free_stage stage.Asking = false
free_stage (stage.Due round) = false
free_stage stage.InTurn = false
free_stage (stage.Answered answer) = false
free_stage (stage.Refused answer) = false

abbrev pub is_free : Place → Bool
is_free place = free_stage place.stage

-- no request is to come or to be carried out there
abbrev pub stage_carried_out : Stage → Bool
stage_carried_out stage.Free = true
stage_carried_out stage.Asking = false
stage_carried_out (stage.Due round) = false
stage_carried_out stage.InTurn = true
stage_carried_out (stage.Answered answer) = true
stage_carried_out (stage.Refused answer) = true

abbrev pub was_carried_out : Place → Bool
was_carried_out place = stage_carried_out place.stage

-- where a connection stands whose answer refused it and was taken
abbrev pub refused : Stage → Stage
refused stage.Free = stage.Free
refused stage.Asking = stage.Asking
refused (stage.Due round) = stage.Due round
refused stage.InTurn = stage.InTurn
refused (stage.Answered answer) = stage.Refused answer
refused (stage.Refused answer) = stage.Refused answer

-- the connection at this place, if there is one, stands so from then on, with nothing kept of it
abbrev pub StandsSince : Stage → Duration → Option Duration → ℕ → List Place → List Place → Type 0
StandsSince to now last at before after =
    slice_get after at ≡ option_map (λ (p : Place). record p {
      stage = to;
      since = now;
      last = last;
      asked = 0;
      unsent = 0;
    }) (slice_get before at)

-- the same connection, for which the clock counts from then on
abbrev pub counted_from : Duration → Place → Place
counted_from now place = record place { since = now }

-- the same connection, with so many bytes kept of its request and of its answer
abbrev pub keeping : ℕ → ℕ → Place → Place
keeping asked unsent place = record place {
  asked = asked;
  unsent = unsent;
}
