-- The queue of an expert, without the minutes of its requests, told by the rows that the query on it
-- shows.
use Rattle.std.proofs.Common.{◌≡◌, ℕ, Bool, true, false, ◌&&◌, cond, List, [], ◌∷◌, map, filter_map}
use Rattle.std.proofs.Common.{refl, sym, ap, ◌∙◌}
use Rattle.std.proofs.Common.{Option, Some, None, option_and_then}
use Rattle.std.specs.List.{cons_option}
use Rattle.std.specs.FinMap.{find, get, get-from_entries}
use Rattle.std.specs.Ordering.{eq_by_cmp}
use Rattle.std.specs.Cmp.{eq_by_cmp_equiv}
use Rattle.std.proofs.lemmas.Simd.{map-map}
use Rattle.sqlite.specs.Order.{Row}
use Rattle.sqlite.specs.State.{State, Shown}
use Rattle.sqlite.specs.declared.types.Value.TheVariants.{Text}
use Rattle.reg_maps.specs.Maps.{keyed, same_text, text_cmp}
use Rattle.reg_maps.proofs.MapLaws.{text_keys, tied, entries_are}
use Rattle.reg_maps.proofs.KeyTests.{pair_test, text_test}
use Rattle.reg_core.specs.Queue.{queue_row, queue_rows}
use Rattle.reg_core.specs.View.{Queued, queue_of}
use Rattle.reg_core.specs.World.{RequestName, Seat, World, name_cmp, seat_cmp}
use Rattle.reg_core.proofs.KeyOrders.{name_keys, seat_keys}
use Rattle.reg_records.specs.Queued.{queued_in}
use Rattle.reg_records.specs.declared.queued.QueuedRequest.{QueuedRequest}
use Rattle.reg_tables.specs.Joining.{queued_rows}
use Rattle.reg_tables.specs.declared.texts.TheConstants.{SELECT_QUEUED}
use Rattle.reg_tables.proofs.JoinLemmas.{queued_selected}
use Rattle.reg_tables.proofs.SelectLemmas.{office_begins}
use Rattle.reg_statements.specs.Content.{IsStored, parts_of, seat_at}
use Rattle.reg_statements.specs.Loading.{IsAscending, ReadAs}
use Rattle.reg_rows.specs.Seats.{assigned_to, seen_row}
use Rattle.reg_rows.proofs.JoinedRows.{pairs_ascend, shown_at}
use Rattle.reg_rows.proofs.MinutedRows.{bare_world}
use Rattle.reg_rows.proofs.QueueRows.{by_seat}
use Rattle.reg_rows.proofs.QueuedRows.{queue_reads, queued_pair, seen_by}

-- in the order of the names of requests
abbrev pub are_queued : List QueuedRequest → Type 0
are_queued = IsAscending (λ a b. name_cmp (a.request.account, a.request.reference)
    (b.request.account, b.request.reference))

-- ---- What the seats show of one request

module _ (w : World) (expert : List ℕ) (name : RequestName) where
  abbrev seen : Option (Unit {0}) → Option Queued
  seen seat = option_and_then (λ x. assigned_to expert w name) seat

  unseen : (seat : Option (Unit {0})) → assigned_to expert w name ≡ None → seen seat ≡ None
  unseen None none = refl
  unseen (Some x) none = none

  module _ (key : RequestName) (rest : List (RequestName × Queued)) (found : Option (Unit {0}))
      (same : find name_cmp name rest ≡ seen found) where
    -- what is first is of this name
    first : (o : Option Queued) → assigned_to expert w name ≡ o
        → eq_by_cmp name_cmp name key ≡ true
        → find name_cmp name (cons_option (keyed key o) rest) ≡ o
    first None was tie = same ∙ unseen found was
    first (Some q) was tie = ap (λ b. cond b (Some q) (find name_cmp name rest)) tie

    -- or of another
    passed : (o : Option Queued) → eq_by_cmp name_cmp name key ≡ false
        → find name_cmp name (cons_option (keyed key o) rest) ≡ find name_cmp name rest
    passed None differ = refl
    passed (Some q) differ = ap (λ b. cond b (Some q) (find name_cmp name rest)) differ

    one_more : (own tie : Bool) → eq_by_cmp name_cmp name key ≡ tie
        → find name_cmp name
        (cons_option (cond own (keyed key (assigned_to expert w key)) None) rest)
        ≡ seen (cond (tie && own) (Some tt) found)
    one_more false true t = same
    one_more false false t = same
    one_more true false t = passed (assigned_to expert w key) t ∙ same
    one_more true true t =
        let is : assigned_to expert w name ≡ assigned_to expert w key =
        ap (assigned_to expert w) (tied name_keys name key t) in
        first (assigned_to expert w key) is t ∙ sym is

  -- the seats show what the expert's seat at the request shows
  pub seats_show : (es : List (Seat × Unit {0}))
      → find name_cmp name (filter_map (seen_by w expert) es)
      ≡ seen (find seat_cmp (name, expert) es)
  seats_show [] = refl
  seats_show (e ∷ es) =
      let found = find seat_cmp (name, expert) es in
      let turned = text_test e.0.1 expert
      ∙ (eq_by_cmp_equiv text_keys.total).symm e.0.1 expert in
      let test = pair_test name_cmp text_cmp (eq_by_cmp name_cmp name e.0.0)
      (same_text e.0.1 expert) (name, expert) e.0 refl turned in
      one_more e.0.0 (filter_map (seen_by w expert) es) found (seats_show es)
      (same_text e.0.1 expert) (eq_by_cmp name_cmp name e.0.0) refl
      ∙ ap (λ b. seen (cond b (Some tt) found)) test

-- ---- All requests

module _ (old new : State) (shown : List Row) (was : IsStored old.now) (expert : List ℕ)
    (values : List QueuedRequest) (up : are_queued values)
    (answer : Shown SELECT_QUEUED.now (Text expert ∷ []) old new shown)
    (reads : ReadAs queued_in shown values) where
  abbrev pairs : List (RequestName × Queued)
  pairs = map queued_pair values

  -- each request that is found is in the queue, and so each that is in it
  each : (name : RequestName)
      → get (queue_of expert (bare_world (parts_of old.now))) name ≡ find name_cmp name pairs
  each name =
      let w = bare_world (parts_of old.now) in
      let seats = filter_map seat_at (old.now.trees 11) in
      by_seat w expert name
      ∙ ap (seen w expert name) (get-from_entries seat_keys.total seats (name, expert))
      ∙ sym (seats_show w expert name seats)
      ∙ sym (ap (find name_cmp name) (queue_reads old.now was expert))
      ∙ shown_at name_keys queued_pair queued_in values up
      (queued_rows old.now.trees (Text expert)) shown
      (queued_selected (Text expert) old new shown (office_begins 8 was.office.schema) answer) reads
      name

  -- the requests that are assigned to an expert, as the expert sees them
  pub queue_found : map seen_row values ≡ queue_rows (queue_of expert (bare_world (parts_of old.now)))
  queue_found =
      sym (map-map (λ (e : RequestName × Queued). queue_row e.0 e.1) queued_pair values)
      ∙ sym (ap (map (λ (e : RequestName × Queued). queue_row e.0 e.1))
      (entries_are name_keys (queue_of expert (bare_world (parts_of old.now))) pairs
      (pairs_ascend name_keys queued_pair queued_in values up) each))
