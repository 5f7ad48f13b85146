-- What the query on the queue and the advice finds: the experts of a request and what they say.
use Rattle.std.proofs.Common.{◌≡◌, Bool, true, false, ◌&&◌, cond, List, [], ◌∷◌, map}
use Rattle.std.proofs.Common.{filter_map, refl, sym, ap, ◌∙◌, inl, inr}
use Rattle.std.proofs.Common.{Option, Some, None, IsSome, option_map, option_and_then, option_to_list}
use Rattle.std.proofs.Math.Bool.{and-true}
use Rattle.std.specs.List.{cons_option}
use Rattle.std.specs.FinMap.{FinMap, entries, find, get, get-from_entries}
use Rattle.std.proofs.lemmas.Simd.{map-map}
use Rattle.sqlite.specs.Effect.{Database}
use Rattle.sqlite.specs.Order.{Row, column}
use Rattle.sqlite.specs.Query.{or_nulls}
use Rattle.sqlite.specs.State.{State, Shown}
use Rattle.sqlite.specs.declared.types.Value.TheVariants.{Text}
use Rattle.reg_maps.specs.Maps.{keyed, only_if, same_text, select}
use Rattle.reg_maps.proofs.MapLaws.{entries-select, get-select, same_at, entries_are}
use Rattle.reg_maps.proofs.RowMaps.Alone.{AreAlone, alone_at}
use Rattle.reg_maps.proofs.RowMaps.Entries.{find_selected}
use Rattle.reg_core.specs.File.{experts_of, opinion, opinions_of, same_name, seats_of}
use Rattle.reg_core.specs.World.{RequestName, Seat, World, seat_cmp}
use Rattle.reg_core.specs.declared.advice.Advice.{Advice}
use Rattle.reg_core.specs.declared.advice.Opinion.{Opinion}
use Rattle.reg_core.proofs.KeyOrders.{seat_keys}
use Rattle.reg_records.specs.Advice.{advice_in}
use Rattle.reg_records.specs.Advised.{advised_in}
use Rattle.reg_records.specs.Queue.{seat_in}
use Rattle.reg_records.specs.declared.advised.AdvisedSeat.{AdvisedSeat}
use Rattle.reg_records.specs.declared.queue.Seat as held
use Rattle.reg_records.proofs.AdvisedLaws.{advised_alone, advised_with}
use Rattle.reg_tables.specs.Joining.{advice_agrees}
use Rattle.reg_tables.specs.Seats.{is_seat_of, seat_columns, seat_rows, seats_rows}
use Rattle.reg_tables.specs.Selecting.{stored}
use Rattle.reg_tables.specs.declared.texts.TheConstants.{SELECT_SEATS}
use Rattle.reg_tables.specs.Values.{same_value}
use Rattle.reg_tables.proofs.QueuedAdvice.{advice_queued}
use Rattle.reg_tables.proofs.SeatJoin.{seats_selected}
use Rattle.reg_tables.proofs.SelectLemmas.{office_begins}
use Rattle.reg_statements.specs.Content.{IsStored, advice_at, content_of, seat_at}
use Rattle.reg_statements.specs.Loading.{IsAscending, ReadAs}
use Rattle.reg_statements.specs.Office as office
use Rattle.reg_statements.proofs.Defined.{is_there, row_there, whole_rows}
use Rattle.reg_statements.proofs.Office as laws
use Rattle.reg_rows.specs.Seats.{opinion_at}
use Rattle.reg_rows.proofs.JoinedRows.{joined_reads, own_advice_at, pairs_ascend, shown_at, was_made}

-- a row of the query, as the seat and what its expert says
abbrev pub seat_pair : AdvisedSeat → Seat × Option Advice
seat_pair row = (((row.seat.account, row.seat.reference), row.seat.expert), row.advice)

abbrev pub seat_reader : Row → Option (Seat × Option Advice)
seat_reader row = option_map seat_pair (advised_in row)

-- the advice that is found reads as that of the seat
with_own : (row : Row) (s : held.Seat) → seat_in (stored 3 row) ≡ Some s → (value : Option Advice)
    (rows : List Row) → AreAlone advice_at (office.queue.pair s).0 value rows
    → filter_map seat_reader (map (seat_columns row) (or_nulls rows))
    ≡ ((office.queue.pair s).0, value) ∷ []
unfolding advice_at
with_own row s is value rows (inl none) =
    (λ i. filter_map seat_reader (map (seat_columns row) (or_nulls (none.0 i))))
    ∙ ap (λ o. cons_option (option_map seat_pair o) []) (advised_alone (stored 3 row) s is)
    ∙ ap (λ o. ((office.queue.pair s).0, o) ∷ []) (sym none.1)
with_own row s is value rows (inr one) =
    let said = was_made office.advice.pair (advice_in (stored 5 one.row))
    ((office.queue.pair s).0, one.x) one.reads in
    (λ i. filter_map seat_reader (map (seat_columns row) (or_nulls (one.alone i))))
    ∙ ap (λ o. cons_option (option_map seat_pair o) [])
    (advised_with (stored 3 row) (stored 5 one.row) s said.item is said.is)
    ∙ ap (λ (e : Seat × Advice). ((office.queue.pair s).0, Some e.1) ∷ []) said.makes
    ∙ ap (λ o. ((office.queue.pair s).0, o) ∷ []) (sym one.is)

-- ---- The seats of a request, as entries of a map

-- what the expert of a seat says, if the seat is at this request
abbrev said_at : World → RequestName → Seat → Unit {0} → Option (Option Advice)
said_at w name seat x = only_if (same_name seat.0 name) (get w.advice seat)

abbrev said_on : World → RequestName → FinMap seat_cmp (Option Advice)
said_on w name = select (said_at w name) w.queue

module _ (w : World) (name : RequestName) where
  abbrev es : List (Seat × Option Advice)
  es = entries (said_on w name)

  pub experts_are : map (λ e. e.0.1) es ≡ experts_of w name
  experts_are =
      ap (map (λ (e : Seat × Option Advice). e.0.1)) (entries-select seat_keys (said_at w name) w.queue)
      ∙ go (entries w.queue)
      ∙ sym (ap (map (λ (e : Seat × Unit {0}). e.0.1))
      (entries-select seat_keys (λ seat x. only_if (same_name seat.0 name) x) w.queue))
    where
      said : Seat × Unit {0} → Option (Seat × Option Advice)
      said e = keyed e.0 (said_at w name e.0 e.1)

      seated : Seat × Unit {0} → Option (Seat × Unit {0})
      seated e = keyed e.0 (only_if (same_name e.0.0 name) e.1)

      go : (qs : List (Seat × Unit {0}))
          → map (λ (e : Seat × Option Advice). e.0.1) (filter_map said qs)
          ≡ map (λ (e : Seat × Unit {0}). e.0.1) (filter_map seated qs)
      go [] = refl
      go (q ∷ qs) = elim (same_name q.0.0 name) as (λ b.
          map (λ (e : Seat × Option Advice). e.0.1)
          (cons_option (keyed q.0 (only_if b (get w.advice q.0))) (filter_map said qs))
          ≡ map (λ (e : Seat × Unit {0}). e.0.1)
          (cons_option (keyed q.0 (only_if b q.1)) (filter_map seated qs)))
          [ true ↦ ap (λ more. q.0.1 ∷ more) (go qs) | false ↦ go qs ]

  -- where each advice is by an expert of its request
  module _ (seated : (seat : Seat) → IsSome (get w.advice seat) → IsSome (get w.queue seat)) where
    same_advice : select (λ seat said. said) (said_on w name) ≡ seats_of name w.advice
    same_advice = same_at seat_keys _ _ (λ q.
        get-select seat_keys (λ seat said. said) (said_on w name) q
        ∙ ap (option_and_then (λ said. said)) (get-select seat_keys (said_at w name) w.queue q)
        ∙ at (get w.queue q) (get w.advice q) (same_name q.0 name) (seated q)
        ∙ sym (get-select seat_keys (λ seat x. only_if (same_name seat.0 name) x) w.advice q))
      where
        at : (seat : Option (Unit {0})) (said : Option Advice) (b : Bool)
            → (IsSome said → IsSome seat)
            → option_and_then (λ said. said) (option_and_then (λ x. only_if b said) seat)
            ≡ option_and_then (λ x. only_if b x) said
        at None None b seated = refl
        at None (Some a) b seated = absurd (cc (seated refl))
        at (Some u) None true seated = refl
        at (Some u) None false seated = refl
        at (Some u) (Some a) true seated = refl
        at (Some u) (Some a) false seated = refl

    pub opinions_are : filter_map (λ e. option_map (opinion e.0) e.1) es ≡ opinions_of w name
    opinions_are =
        go es
        ∙ ap (map (λ (e : Seat × Advice). opinion e.0 e.1))
        (sym (entries-select seat_keys (λ seat said. said) (said_on w name))
        ∙ ap entries same_advice)
      where
        told : Seat × Option Advice → Option Opinion
        told e = option_map (opinion e.0) e.1

        given : Seat × Option Advice → Option (Seat × Advice)
        given e = keyed e.0 e.1

        go : (es : List (Seat × Option Advice)) → filter_map told es
            ≡ map (λ (e : Seat × Advice). opinion e.0 e.1) (filter_map given es)
        go [] = refl
        go (e ∷ es) = elim e.1 as (λ o. cons_option (option_map (opinion e.0) o) (filter_map told es)
            ≡ map (λ (e : Seat × Advice). opinion e.0 e.1)
            (cons_option (keyed e.0 o) (filter_map given es))) [
              | None ↦ go es
              | Some a ↦ ap (λ more. opinion e.0 a ∷ more) (go es)
            ]

-- each advice is that of a seat in the queue
advice_seated : (db : Database) → IsStored db → (seat : Seat)
    → IsSome (get (content_of db).advice seat) → IsSome (get (content_of db).queue seat)
advice_seated db was seat there =
    let advice = row_there office.advice laws.advice seat db was there in
    let queued = advice_queued db was.office advice.0 advice.1 in
    is_there office.queue laws.queue seat db was (queued.0, queued.1, queued.2 ∙ advice.2)

-- ---- What the rows that are shown say

opinions_at : (values : List AdvisedSeat) → filter_map opinion_at values
    ≡ filter_map (λ (e : Seat × Option Advice). option_map (opinion e.0) e.1) (map seat_pair values)
opinions_at [] = refl
opinions_at (v ∷ values) = ap (cons_option (opinion_at v)) (opinions_at values)

module _ (old new : State) (shown : List Row) (was : IsStored old.now) (name : RequestName)
    (values : List AdvisedSeat)
    (up : IsAscending (λ a b. seat_cmp (seat_pair a).0 (seat_pair b).0) values)
    (answer : Shown SELECT_SEATS.now (Text name.0 ∷ Text name.1 ∷ []) old new shown)
    (reads : ReadAs advised_in shown values) where
  abbrev w : World
  w = content_of old.now

  abbrev asked : Row → Bool
  asked = is_seat_of (Text name.0) (Text name.1)

  abbrev advice_rows : Row → List Row
  advice_rows = seat_rows (old.now.trees 14)

  abbrev seen : Seat × Unit {0} → Option (Seat × Option Advice)
  seen e = keyed e.0 (said_at w name e.0 e.1)

  each : (row : Row) (s : held.Seat) → seat_in (stored 3 row) ≡ Some s
      → filter_map seat_reader (cond (asked row) (advice_rows row) [])
      ≡ option_to_list (seen (office.queue.pair s))
  each row s is =
      (λ i. filter_map seat_reader (cond
      (same_value (column (laws.queue.exact row s is i) 0) (Text name.0)
      && (same_value (column (laws.queue.exact row s is i) 1) (Text name.1) && true))
      (advice_rows row) []))
      ∙ ap (λ b. filter_map seat_reader (cond (same_text s.account name.0 && b) (advice_rows row) []))
      (and-true (same_text s.reference name.1))
      ∙ go (same_name (s.account, s.reference) name)
    where
      go : (b : Bool) → filter_map seat_reader (cond b (advice_rows row) [])
          ≡ option_to_list
          (keyed (office.queue.pair s).0 (only_if b (get w.advice (office.queue.pair s).0)))
      go true =
          with_own row s is _ _ (alone_at seat_keys (old.now.trees 14) (advice_agrees row)
          (office.queue.pair s).0 (whole_rows office.advice laws.advice _ was)
          (own_advice_at row s is))
      go false = refl

  at : (q : Seat) → get (said_on w name) q ≡ find seat_cmp q (map seat_pair values)
  at q =
      let rows = old.now.trees 11 in
      let table = whole_rows office.queue laws.queue _ was in
      get-select seat_keys (said_at w name) w.queue q
      ∙ ap (option_and_then (said_at w name q))
      (get-from_entries seat_keys.total (filter_map seat_at rows) q)
      ∙ sym (find_selected seat_keys (said_at w name) q (filter_map seat_at rows) table.distinct)
      ∙ sym (ap (find seat_cmp q) (joined_reads seat_reader advice_rows asked seen each rows
      table.reads))
      ∙ shown_at seat_keys seat_pair advised_in values up
      (seats_rows old.now.trees (Text name.0) (Text name.1)) shown
      (seats_selected (Text name.0) (Text name.1) old new shown
      (office_begins 8 was.office.schema) answer) reads q

  are : entries (said_on w name) ≡ map seat_pair values
  are =
      entries_are seat_keys (said_on w name) (map seat_pair values)
      (pairs_ascend seat_keys seat_pair advised_in values up) at

  pub seats_experts : map (λ s. s.seat.expert) values ≡ experts_of w name
  seats_experts =
      sym (map-map (λ (e : Seat × Option Advice). e.0.1) seat_pair values)
      ∙ sym (ap (map (λ (e : Seat × Option Advice). e.0.1)) are) ∙ experts_are w name

  pub seats_opinions : filter_map opinion_at values ≡ opinions_of w name
  seats_opinions =
      opinions_at values
      ∙ sym (ap (filter_map (λ (e : Seat × Option Advice). option_map (opinion e.0) e.1)) are)
      ∙ opinions_are w name (advice_seated old.now was)
