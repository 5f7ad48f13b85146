-- What the query on the queue, the requests and the advice finds: the queue of an expert, without the
-- minutes of its requests.
use Rattle.std.proofs.Common.{◌≡◌, ℕ, Bool, true, false, cond, List, [], ◌∷◌, filter}
use Rattle.std.proofs.Common.{filter_map, refl, sym, ap, subst, ◌∙◌, inl, inr}
use Rattle.std.proofs.Common.{Option, Some, None, option_map, option_to_list}
use Rattle.std.specs.List.{cons_option, flat_map}
use Rattle.std.specs.FinMap.{get}
use Rattle.std.proofs.lemmas.List.{append-nil}
use Rattle.sqlite.specs.Effect.{Database}
use Rattle.sqlite.specs.Order.{Row, column}
use Rattle.sqlite.specs.declared.types.Value.TheVariants.{Text}
use Rattle.reg_maps.specs.Maps.{keyed, same_text}
use Rattle.reg_maps.specs.RowMaps.{PassesAt}
use Rattle.reg_maps.proofs.MapLaws.{text_keys, tied}
use Rattle.reg_maps.proofs.RowMaps.Alone.{AreAlone, alone_at}
use Rattle.reg_maps.proofs.KeyTests.{text_test}
use Rattle.reg_core.specs.Request.{case_of}
use Rattle.reg_core.specs.View.{Queued, as_queued}
use Rattle.reg_core.specs.World.{RequestName, Seat, World, name_cmp}
use Rattle.reg_core.specs.declared.advice.Advice.{Advice}
use Rattle.reg_core.specs.declared.request.Case.{Case}
use Rattle.reg_core.proofs.KeyOrders.{name_keys, seat_keys}
use Rattle.reg_records.specs.Advice.{advice_in}
use Rattle.reg_records.specs.Queue.{seat_in}
use Rattle.reg_records.specs.Queued.{queued_in}
use Rattle.reg_records.specs.Requests.Reading.{request_in}
use Rattle.reg_records.specs.declared.queue.Seat as held
use Rattle.reg_records.specs.declared.queued.QueuedRequest.{QueuedRequest}
use Rattle.reg_records.proofs.QueuedLaws.{queued_advised, queued_alone}
use Rattle.reg_tables.specs.Joining.{advice_agrees, is_of, queued_at, queued_columns, queued_rows, request_agrees, with_advice}
use Rattle.reg_tables.specs.Editing.{has_all}
use Rattle.reg_tables.specs.Selecting.{stored}
use Rattle.reg_tables.specs.Values.{same_value}
use Rattle.reg_statements.specs.Content.{IsStored, advice_at, case_at, parts_of, seat_at}
use Rattle.reg_rows.specs.Seats.{assigned_to}
use Rattle.reg_rows.proofs.JoinedRows.{joined_reads, own_advice_at, was_made}
use Rattle.reg_rows.proofs.MinutedRows.{bare_world}
use Rattle.reg_statements.specs.Office as office
use Rattle.reg_statements.proofs.Defined.{key_passes, whole_rows}
use Rattle.reg_statements.proofs.Office as laws

-- a row of the query, as the name of its request and what the expert sees of it
abbrev pub queued_pair : QueuedRequest → RequestName × Queued
queued_pair q =
    ((q.request.account, q.request.reference), as_queued q.advice (case_of q.request))

abbrev pub queued_reader : Row → Option (RequestName × Queued)
queued_reader row = option_map queued_pair (queued_in row)

-- what is seen by a seat of the queue, if it is the expert's
abbrev pub seen_by : World → List ℕ → Seat × Unit {0} → Option (RequestName × Queued)
seen_by w expert e =
    cond (same_text e.0.1 expert) (keyed e.0.0 (assigned_to expert w e.0.0)) None

-- ---- The rows that agree with a row of the queue

request_at : (row : Row) (s : held.Seat) → seat_in (stored 3 row) ≡ Some s
    → PassesAt name_cmp case_at (request_agrees row) (s.account, s.reference)
request_at row s is =
    subst (λ (cs : Row). PassesAt name_cmp case_at (λ other.
    has_all ((1, column cs 0) ∷ (2, column cs 1) ∷ []) other) (s.account, s.reference))
    (sym (laws.queue.exact row s is))
    (key_passes office.requests laws.requests (s.account, s.reference))

-- what is shown of a request and the advice of a seat reads as what its expert sees
shown_alone : (row : Row) (name : RequestName) (c : Case) → case_at row ≡ Some (name, c)
    → queued_reader (queued_columns row []) ≡ Some (name, as_queued None c)
unfolding case_at
shown_alone row name c is =
    let made = was_made office.requests.pair (request_in (stored 25 row)) (name, c) is in
    ap (option_map queued_pair) (queued_alone (stored 25 row) made.item made.is)
    ∙ ap (λ (e : RequestName × Case). Some (e.0, as_queued None e.1)) made.makes

shown_advised : (row other : Row) (name : RequestName) (c : Case) (seat : Seat) (a : Advice)
    → case_at row ≡ Some (name, c) → advice_at other ≡ Some (seat, a)
    → queued_reader (queued_columns row other) ≡ Some (name, as_queued (Some a) c)
unfolding case_at advice_at
shown_advised row other name c seat a is at =
    let made = was_made office.requests.pair (request_in (stored 25 row)) (name, c) is in
    let said = was_made office.advice.pair (advice_in (stored 5 other)) (seat, a) at in
    ap (option_map queued_pair)
    (queued_advised (stored 25 row) (stored 5 other) made.item said.item made.is said.is)
    ∙ ap (λ (e : Seat × Advice). Some (
      (made.item.account, made.item.reference),
      as_queued (Some e.1) (case_of made.item),
    )) said.makes
    ∙ ap (λ (e : RequestName × Case). Some (e.0, as_queued (Some a) e.1)) made.makes

-- the advice that is found, as what the expert sees with it
with_own : (row : Row) (name : RequestName) (c : Case) → case_at row ≡ Some (name, c)
    → (seat : Seat) (value : Option Advice) (rows : List Row) → AreAlone advice_at seat value rows
    → filter_map queued_reader (with_advice rows row) ≡ (name, as_queued value c) ∷ []
with_own row name c is seat value rows (inl none) =
    (λ i. filter_map queued_reader (with_advice (none.0 i) row))
    ∙ ap (λ r. cons_option r []) (shown_alone row name c is)
    ∙ ap (λ o. (name, as_queued o c) ∷ []) (sym none.1)
with_own row name c is seat value rows (inr one) =
    (λ i. filter_map queued_reader (with_advice (one.alone i) row))
    ∙ ap (λ r. cons_option r []) (shown_advised row one.row name c seat one.x is one.reads)
    ∙ ap (λ o. (name, as_queued o c) ∷ []) (sym one.is)

module _ (db : Database) (was : IsStored db) where
  abbrev w : World
  w = bare_world (parts_of db)

  abbrev joined_at : Row → List Row
  joined_at seat = queued_at (db.trees 9) (db.trees 14) seat

  -- what is shown of a row of the queue reads as what the seat's expert sees
  at_seat : (row : Row) (s : held.Seat) → seat_in (stored 3 row) ≡ Some s
      → filter_map queued_reader (joined_at row)
      ≡ option_to_list (keyed (s.account, s.reference)
      (assigned_to s.expert w (s.account, s.reference)))
  at_seat row s is =
      go (filter (request_agrees row) (db.trees 9)) (get w.requests name)
      (alone_at name_keys (db.trees 9) (request_agrees row) name (whole_rows office.requests laws.requests _ was)
      (request_at row s is))
    where
      name : RequestName
      name = (s.account, s.reference)

      advice : List Row
      advice = filter (advice_agrees row) (db.trees 14)

      go : (rows : List Row) (value : Option Case) → AreAlone case_at name value rows
          → filter_map queued_reader (flat_map (with_advice advice) rows)
          ≡ option_to_list (keyed name
          (option_map (as_queued (get w.advice (office.queue.pair s).0)) value))
      go rows value (inl none) =
          (λ i. filter_map queued_reader (flat_map (with_advice advice) (none.0 i)))
          ∙ ap (λ o. option_to_list (keyed name
          (option_map (as_queued (get w.advice (office.queue.pair s).0)) o))) (sym none.1)
      go rows value (inr one) =
          (λ i. filter_map queued_reader (flat_map (with_advice advice) (one.alone i)))
          ∙ ap (filter_map queued_reader) (append-nil (with_advice advice one.row))
          ∙ with_own one.row name one.x one.reads (office.queue.pair s).0 (get w.advice (office.queue.pair s).0) advice
          (alone_at seat_keys (db.trees 14) (advice_agrees row) (office.queue.pair s).0 (whole_rows office.advice laws.advice _ was)
          (own_advice_at row s is))
          ∙ ap (λ o. option_to_list (keyed name
          (option_map (as_queued (get w.advice (office.queue.pair s).0)) o))) (sym one.is)

  module _ (expert : List ℕ) where
    each : (row : Row) (s : held.Seat) → seat_in (stored 3 row) ≡ Some s
        → filter_map queued_reader (cond (is_of (Text expert) row) (joined_at row) [])
        ≡ option_to_list (seen_by w expert (office.queue.pair s))
    each row s is =
        (λ i. filter_map queued_reader
        (cond (same_value (column (laws.queue.exact row s is i) 2) (Text expert)) (joined_at row) []))
        ∙ go (same_text s.expert expert) refl
      where
        name : RequestName
        name = (s.account, s.reference)

        go : (b : Bool) → same_text s.expert expert ≡ b
            → filter_map queued_reader (cond b (joined_at row) [])
            ≡ option_to_list (cond b (keyed name (assigned_to expert w name)) None)
        go true t =
            let own : s.expert ≡ expert =
            tied text_keys s.expert expert (sym (text_test s.expert expert) ∙ t) in
            at_seat row s is ∙ ap (λ x. option_to_list (keyed name (assigned_to x w name))) own
        go false t = refl

    -- what is shown of the tables reads as what the expert's seats show
    pub queue_reads : filter_map queued_reader (queued_rows db.trees (Text expert))
        ≡ filter_map (seen_by w expert) (filter_map seat_at (db.trees 11))
    queue_reads =
        joined_reads queued_reader joined_at (is_of (Text expert)) (seen_by w expert) each
        (db.trees 11) (whole_rows office.queue laws.queue _ was).reads
