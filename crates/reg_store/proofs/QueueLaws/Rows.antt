-- The row of a request in an expert's queue, after each change.
use Rattle.std.proofs.Common.{◌≡◌, ℕ, Bool, true, false, cond, List, refl, sym, ap, subst}
use Rattle.std.proofs.Common.{◌∙◌}
use Rattle.std.specs.Prelude.{Option, Some, None, is_some, option_map, option_and_then}
use Rattle.std.specs.Cmp.{eq_by_cmp_equiv}
use Rattle.std.specs.Ordering.{eq_by_cmp}
use Rattle.std.specs.BTreeMap.{is_at}
use Rattle.std.specs.FinMap.{get, contains_key}
use Rattle.reg_maps.specs.Maps.{text_cmp, only_if}
use Rattle.reg_maps.proofs.MapLaws.{IsKeyOrder, text_keys, pair_keys, get-select, get-at_insert, get-update, tied}
use Rattle.reg_maps.proofs.KeyTests.{pair_turned}
use Rattle.reg_core.specs.Queue.{queue_row}
use Rattle.reg_core.specs.Request.{word_of}
use Rattle.reg_core.specs.View.{as_queued, queued_to}
use Rattle.reg_core.specs.World.{World, RequestName, name_cmp, seat_cmp, pending, in_state}
use Rattle.reg_core.specs.World.{with_state, applied}
use Rattle.reg_core.specs.declared.advice.Advice.{Advice}
use Rattle.reg_core.specs.declared.ask.Ask.{Ask}
use Rattle.reg_core.specs.declared.change.Change.TheVariants.{Submit, Assign, Advise}
use Rattle.reg_core.specs.declared.queue.QueueRow.{QueueRow}
use Rattle.reg_core.specs.declared.request.Case.{Case}
use Rattle.reg_core.specs.declared.request.State.{State}
use Rattle.reg_core.proofs.KeyOrders.{name_keys, seat_keys}
use Rattle.reg_store.specs.Lists.Queues.{queue_cmp, row_in_queue, row_for, with_word, with_advice}

pub queue_keys : IsKeyOrder queue_cmp
queue_keys = pair_keys text_keys name_keys

-- ---- Where a request is there, and where it is assigned

abbrev row_where : RequestName → Bool → Option Advice → Option Case → Option QueueRow
row_where name seat advice case =
    option_and_then (λ case. only_if seat (queue_row name (as_queued advice case))) case

-- of an expert to whom it is assigned
abbrev row_with : RequestName → Option Advice → Option Case → Option QueueRow
row_with name advice case = option_map (λ case. queue_row name (as_queued advice case)) case

row_where-is : (name : RequestName) (seat : Bool) (advice : Option Advice) (case : Option Case)
    → option_map (queue_row name)
    (option_and_then (λ case. only_if seat (as_queued advice case)) case)
    ≡ row_where name seat advice case
row_where-is name seat advice None = refl
row_where-is name true advice (Some case) = refl
row_where-is name false advice (Some case) = refl

row_where-unseated : (name : RequestName) (advice : Option Advice) (case : Option Case)
    → row_where name false advice case ≡ None
row_where-unseated name advice None = refl
row_where-unseated name advice (Some case) = refl

row_where-seated : (name : RequestName) (advice : Option Advice) (case : Option Case)
    → row_where name true advice case ≡ row_with name advice case
row_where-seated name advice None = refl
row_where-seated name advice (Some case) = refl

row_where-no_row : (name : RequestName) (seat : Bool) (advice : Option Advice) (case : Option Case)
    → row_with name advice case ≡ None → row_where name seat advice case ≡ None
row_where-no_row name seat advice None none = refl
row_where-no_row name seat advice (Some case) none = absurd (cc)

row_where-advised : (name : RequestName) (seat : Bool) (advice : Advice) (old : Option Advice)
    (case : Option Case)
    → row_where name seat (Some advice) case
    ≡ option_map (with_advice advice) (row_where name seat old case)
row_where-advised name seat advice old None = refl
row_where-advised name true advice old (Some case) = refl
row_where-advised name false advice old (Some case) = refl

row_where-in_state : (name : RequestName) (seat : Bool) (advice : Option Advice) (state : State)
    (case : Option Case)
    → row_where name seat advice (option_map (in_state state) case)
    ≡ option_map (with_word (word_of state)) (row_where name seat advice case)
row_where-in_state name seat advice state None = refl
row_where-in_state name true advice state (Some case) = refl
row_where-in_state name false advice state (Some case) = refl

-- ---- The row in a queue

module _ (w : World) (expert : List ℕ) (name : RequestName) where
  abbrev seat : Bool
  seat = contains_key w.queue (name, expert)

  abbrev own_advice : Option Advice
  own_advice = get w.advice (name, expert)

  pub row_in_queue-where : row_in_queue w expert name
      ≡ row_where name seat own_advice (get w.requests name)
  row_in_queue-where =
      ap (option_map (queue_row name))
      (get-select name_keys (λ name case. queued_to expert w name case) w.requests name)
      ∙ row_where-is name seat own_advice (get w.requests name)

  -- there is none where it is not assigned
  pub row_in_queue-unseated : seat ≡ false → row_in_queue w expert name ≡ None
  row_in_queue-unseated absent =
      row_in_queue-where ∙ ap (λ seat. row_where name seat own_advice (get w.requests name)) absent
      ∙ row_where-unseated name own_advice (get w.requests name)

  -- nor where it is not there
  row_in_queue-no_row : row_for w.requests w.advice expert name ≡ None
      → row_in_queue w expert name ≡ None
  row_in_queue-no_row none =
      row_in_queue-where ∙ row_where-no_row name seat own_advice (get w.requests name) none

-- ---- After a change

-- the seat of an expert in a request's panel, and the place of the request in the expert's queue
seat-place : (name n : RequestName) (expert e : List ℕ)
    → eq_by_cmp seat_cmp (n, e) (name, expert) ≡ eq_by_cmp queue_cmp (e, n) (expert, name)
seat-place name n expert e = pair_turned name_cmp text_cmp (n, e) (name, expert)

-- what holds at a place holds where it ties with another
at_place : (P : List ℕ → RequestName → Type 0) (name n : RequestName) (expert e : List ℕ)
    → eq_by_cmp queue_cmp (e, n) (expert, name) ≡ true → P expert name → P e n
at_place P name n expert e t p =
    subst (λ (k : List ℕ × RequestName). P k.0 k.1)
    (sym (tied queue_keys (e, n) (expert, name) t)) p

module _ (w : World) (name : RequestName) where
  -- a new request is assigned to nobody
  pub row_in_queue-submit : (ask : Ask) → ((e : List ℕ) → contains_key w.queue (name, e) ≡ false)
      → (e : List ℕ) (n : RequestName)
      → row_in_queue (applied w (Submit name.0 name.1 ask)) e n ≡ row_in_queue w e n
  row_in_queue-submit ask nobody e n =
      let v : World = applied w (Submit name.0 name.1 ask) in
      elim (is_at (name_cmp n) name) as
      (λ b. is_at (name_cmp n) name ≡ b → row_in_queue v e n ≡ row_in_queue w e n) [
        | true ↦ λ t.
            let unseated : contains_key w.queue (n, e) ≡ false =
            ap (λ (n : RequestName). contains_key w.queue (n, e)) (tied name_keys n name t)
            ∙ nobody e in
            row_in_queue-unseated v e n unseated ∙ sym (row_in_queue-unseated w e n unseated)
        | false ↦ λ t.
            let case : get v.requests n ≡ get w.requests n =
            get-at_insert name_keys w.requests name (pending ask) n
            ∙ ap (λ b. cond b (Some (pending ask)) (get w.requests n)) t in
            row_in_queue-where v e n ∙ ap (row_where n (seat w e n) (own_advice w e n)) case
            ∙ sym (row_in_queue-where w e n)
      ] refl

  -- another state gives the row its word
  pub row_in_queue-with_state : (state : State) (e : List ℕ) (n : RequestName)
      → row_in_queue (with_state w name state) e n
      ≡ cond (is_at (name_cmp name) n)
      (option_map (with_word (word_of state)) (row_in_queue w e n)) (row_in_queue w e n)
  row_in_queue-with_state state e n =
      let v : World = with_state w name state in
      let row : Option Case → Option QueueRow = row_where n (seat w e n) (own_advice w e n) in
      let changed : Option Case = option_map (in_state state) (get w.requests name) in
      let worded : Option QueueRow = option_map (with_word (word_of state)) (row_in_queue w e n) in
      row_in_queue-where v e n
      ∙ ap row (get-update name_keys w.requests name (in_state state) n
      ∙ ap (λ b. cond b changed (get w.requests n))
      ((eq_by_cmp_equiv name_keys.total).symm n name))
      ∙ elim (is_at (name_cmp name) n) as (λ b. is_at (name_cmp name) n ≡ b
      → row (cond b changed (get w.requests n)) ≡ cond b worded (row_in_queue w e n)) [
        | true ↦ λ t.
            ap (λ m. row (option_map (in_state state) (get w.requests m)))
            (tied name_keys name n t)
            ∙ row_where-in_state n (seat w e n) (own_advice w e n) state (get w.requests n)
            ∙ ap (option_map (with_word (word_of state))) (sym (row_in_queue-where w e n))
        | false ↦ λ t. sym (row_in_queue-where w e n)
      ] refl

  module _ (expert : List ℕ) where
    abbrev is_place : List ℕ → RequestName → Bool
    is_place e n = eq_by_cmp queue_cmp (e, n) (expert, name)

    -- who is assigned a request has its row
    pub row_in_queue-assign : (e : List ℕ) (n : RequestName)
        → row_in_queue (applied w (Assign name.0 name.1 expert)) e n
        ≡ cond (is_place e n) (row_for w.requests w.advice expert name) (row_in_queue w e n)
    row_in_queue-assign e n =
        let v : World = applied w (Assign name.0 name.1 expert) in
        let row : Option (Unit {0}) → Option QueueRow =
        λ seat. row_where n (is_some seat) (own_advice w e n) (get w.requests n) in
        row_in_queue-where v e n
        ∙ ap row (get-at_insert seat_keys w.queue (name, expert) tt (n, e)
        ∙ ap (λ b. cond b (Some tt) (get w.queue (n, e))) (seat-place name n expert e))
        ∙ elim (is_place e n) as
        (λ b. is_place e n ≡ b → row (cond b (Some tt) (get w.queue (n, e)))
        ≡ cond b (row_for w.requests w.advice expert name) (row_in_queue w e n)) [
          | true ↦ λ t.
              row_where-seated n (own_advice w e n) (get w.requests n)
              ∙ at_place (λ e n. row_for w.requests w.advice e n
              ≡ row_for w.requests w.advice expert name)
              name n expert e t refl
          | false ↦ λ t. sym (row_in_queue-where w e n)
        ] refl

    -- or none, where it is not there
    pub row_in_queue-assign_none : row_for w.requests w.advice expert name ≡ None
        → (e : List ℕ) (n : RequestName)
        → row_in_queue (applied w (Assign name.0 name.1 expert)) e n ≡ row_in_queue w e n
    row_in_queue-assign_none none e n =
        row_in_queue-assign e n ∙ ap (λ row. cond (is_place e n) row (row_in_queue w e n)) none
        ∙ elim (is_place e n) as
        (λ b. is_place e n ≡ b → cond b None (row_in_queue w e n) ≡ row_in_queue w e n) [
          | true ↦ λ t.
              sym (at_place (λ e n. row_in_queue w e n ≡ None) name n expert e t
              (row_in_queue-no_row w expert name none))
          | false ↦ λ t. refl
        ] refl

    -- who gives advice has it in its row
    pub row_in_queue-advise : (advice : Advice) (e : List ℕ) (n : RequestName)
        → row_in_queue (applied w (Advise name.0 name.1 expert advice)) e n
        ≡ cond (is_place e n) (option_map (with_advice advice) (row_in_queue w expert name))
        (row_in_queue w e n)
    row_in_queue-advise advice e n =
        let v : World = applied w (Advise name.0 name.1 expert advice) in
        let row : Option Advice → Option QueueRow =
        λ advice. row_where n (seat w e n) advice (get w.requests n) in
        let advised : Option QueueRow → Option QueueRow = option_map (with_advice advice) in
        row_in_queue-where v e n
        ∙ ap row (get-at_insert seat_keys w.advice (name, expert) advice (n, e)
        ∙ ap (λ b. cond b (Some advice) (own_advice w e n)) (seat-place name n expert e))
        ∙ elim (is_place e n) as
        (λ b. is_place e n ≡ b → row (cond b (Some advice) (own_advice w e n))
        ≡ cond b (advised (row_in_queue w expert name)) (row_in_queue w e n)) [
          | true ↦ λ t.
              row_where-advised n (seat w e n) advice (own_advice w e n) (get w.requests n)
              ∙ ap advised (sym (row_in_queue-where w e n))
              ∙ at_place (λ e n. advised (row_in_queue w e n)
              ≡ advised (row_in_queue w expert name))
              name n expert e t refl
          | false ↦ λ t. sym (row_in_queue-where w e n)
        ] refl
