-- The queues of experts after each change, and a whole queue.
use Rattle.std.proofs.Common.{◌≡◌, ℕ, true, false, cond, ◌&&◌, List, [], ◌∷◌, refl, sym, ap}
use Rattle.std.proofs.Common.{◌∙◌, map}
use Rattle.std.specs.Prelude.{Option, Some, None, is_some, option_map, option_and_then, filter_map}
use Rattle.std.specs.Ordering.{eq_by_cmp}
use Rattle.std.specs.BTreeMap.{is_at}
use Rattle.std.specs.Map.{lookup}
use Rattle.std.specs.FinMap.{FinMap, get, contains_key, insert, entries, entries_sorted}
use Rattle.std.specs.FinMap.{from_entries, get-entries, get-empty}
use Rattle.reg_maps.specs.Maps.{text_cmp, keyed, select, update}
use Rattle.reg_maps.specs.Groups.{group_at, group_rows, rows_in}
use Rattle.reg_maps.proofs.MapLaws.{text_keys, get-select, entries-select, get-at_insert, get-update, tied}
use Rattle.reg_maps.proofs.FiniteMaps.Ordered.{find_is}
use Rattle.reg_maps.proofs.FiniteMaps.InOrder.{group_is}
use Rattle.reg_core.specs.Queue.{queue_row, queue_rows}
use Rattle.reg_core.specs.Request.{word_of}
use Rattle.reg_core.specs.View.{Queued, queue_of}
use Rattle.reg_core.specs.World.{World, RequestName, name_cmp, seat_cmp, with_state, applied}
use Rattle.reg_core.specs.declared.advice.Advice.{Advice}
use Rattle.reg_core.specs.declared.ask.Ask.{Ask}
use Rattle.reg_core.specs.declared.change.Change.TheVariants.{Submit, Assign, Advise}
use Rattle.reg_core.specs.declared.queue.QueueRow.{QueueRow}
use Rattle.reg_core.specs.declared.request.State.{State}
use Rattle.reg_core.proofs.KeyOrders.{name_keys}
use Rattle.reg_store.specs.Lists.File.{review_world}
use Rattle.reg_store.specs.Lists.Opinions.{Opinions}
use Rattle.reg_store.specs.Lists.Panels.{Panels}
use Rattle.reg_store.specs.Lists.Queues.{Queues, queue_cmp, all_queues, AreInStep, AreWorded, row_in_queue}
use Rattle.reg_store.specs.Lists.Queues.{row_for, with_word, with_advice}
use Rattle.reg_store.specs.Lists.Requests.{Requests}
use Rattle.reg_store.proofs.QueueLaws.Rows.{queue_keys, row_in_queue-unseated, row_in_queue-submit}
use Rattle.reg_store.proofs.QueueLaws.Rows.{row_in_queue-with_state, row_in_queue-assign}
use Rattle.reg_store.proofs.QueueLaws.Rows.{row_in_queue-assign_none, row_in_queue-advise}

-- nothing is assigned to anybody
pub in_step-empty : (requests : Requests) (panels : Panels) (opinions : Opinions)
    (queues : Queues) → panels.entries ≡ [] → queues.entries ≡ []
    → AreInStep (review_world requests panels opinions) (all_queues queues)
in_step-empty requests panels opinions queues no_panel no_queue e n =
    ap (λ es. get (from_entries {R = queue_cmp} (rows_in es)) (e, n)) no_queue
    ∙ get-empty queue_cmp (e, n)
    ∙ sym (row_in_queue-unseated (review_world requests panels opinions) e n
    (ap (λ es. contains_key (from_entries {R = seat_cmp} (rows_in es)) (n, e)) no_panel
    ∙ ap is_some (get-empty seat_cmp (n, e))))

-- ---- After a change

module _ (w : World) (rows : FinMap queue_cmp QueueRow) (in_step : AreInStep w rows)
    (name : RequestName) where
  -- a new request is in no queue
  pub in_step-submit : (ask : Ask) → ((e : List ℕ) → contains_key w.queue (name, e) ≡ false)
      → AreInStep (applied w (Submit name.0 name.1 ask)) rows
  in_step-submit ask nobody e n = in_step e n ∙ sym (row_in_queue-submit w name ask nobody e n)

  -- the word of another state is in the queues of the request's experts
  pub in_step-with_state : (state : State) (new : FinMap queue_cmp QueueRow)
      → AreWorded (λ e. contains_key w.queue (name, e)) name (word_of state) rows new
      → AreInStep (with_state w name state) new
  in_step-with_state state new worded e n =
      let word : Option QueueRow → Option QueueRow = option_map (with_word (word_of state)) in
      let seat = contains_key w.queue (name, e) in
      let at = is_at (name_cmp name) n in
      let row = row_in_queue w e n in
      worded e n ∙ ap (λ row. cond (seat && at) (word row) row) (in_step e n)
      ∙ elim seat as (λ b. seat ≡ b → cond (b && at) (word row) row ≡ cond at (word row) row) [
        | true ↦ λ t. refl
        | false ↦ λ t. elim at as (λ b. at ≡ b → row ≡ cond b (word row) row) [
          | true ↦ λ same.
              let none : row ≡ None = row_in_queue-unseated w e n
              (ap (λ (n : RequestName). contains_key w.queue (n, e))
              (sym (tied name_keys name n same)) ∙ t) in
              none ∙ sym (ap word none)
          | false ↦ λ other. refl
        ] refl
      ] refl
      ∙ sym (row_in_queue-with_state w name state e n)

  module _ (expert : List ℕ) where
    -- what is not assigned to an expert is not in the expert's queue
    pub unseated : get w.queue (name, expert) ≡ None → get rows (expert, name) ≡ None
    unseated absent = in_step expert name ∙ row_in_queue-unseated w expert name (ap is_some absent)

    -- what is assigned to an expert is put into the expert's queue
    pub in_step-assign : (row : QueueRow) → row_for w.requests w.advice expert name ≡ Some row
        → AreInStep (applied w (Assign name.0 name.1 expert)) (insert rows (expert, name) row)
    in_step-assign row there e n =
        get-at_insert queue_keys rows (expert, name) row (e, n)
        ∙ (λ i. cond (eq_by_cmp queue_cmp (e, n) (expert, name)) (sym there i) (in_step e n i))
        ∙ sym (row_in_queue-assign w name expert e n)

    -- if it is there
    pub in_step-assign_none : row_for w.requests w.advice expert name ≡ None
        → AreInStep (applied w (Assign name.0 name.1 expert)) rows
    in_step-assign_none none e n =
        in_step e n ∙ sym (row_in_queue-assign_none w name expert none e n)

    -- what an expert advises is put into the expert's queue
    pub in_step-advise : (advice : Advice)
        → AreInStep (applied w (Advise name.0 name.1 expert advice))
        (update rows (expert, name) (with_advice advice))
    in_step-advise advice e n =
        get-update queue_keys rows (expert, name) (with_advice advice) (e, n)
        ∙ (λ i. cond (eq_by_cmp queue_cmp (e, n) (expert, name))
        (option_map (with_advice advice) (in_step expert name i)) (in_step e n i))
        ∙ sym (row_in_queue-advise w name expert advice e n)

-- ---- A whole queue

-- each row with its key
rows-keyed : (es : List (RequestName × Queued))
    → map (λ (r : RequestName × QueueRow). r.1)
    (filter_map (λ e. keyed e.0 (Some (queue_row e.0 e.1))) es)
    ≡ map (λ e. queue_row e.0 e.1) es
rows-keyed [] = refl
rows-keyed (e ∷ es) = ap (λ rows. queue_row e.0 e.1 ∷ rows) (rows-keyed es)

each_some : {A B : Type 0} (f : A → B) (o : Option A)
    → option_and_then (λ x. Some (f x)) o ≡ option_map f o
each_some f None = refl
each_some f (Some x) = refl

rows-group : (expert : List ℕ) (rs : List (RequestName × QueueRow))
    → map (λ (e : (List ℕ × RequestName) × QueueRow). e.1) (group_rows expert rs)
    ≡ map (λ r. r.1) rs
rows-group expert [] = refl
rows-group expert (r ∷ rs) = ap (λ rows. r.1 ∷ rows) (rows-group expert rs)

-- the rows of an expert's queue are those of its group
pub queue_rows-group : (w : World) (rows : FinMap queue_cmp QueueRow) → AreInStep w rows
    → (expert : List ℕ)
    → queue_rows (queue_of expert w) ≡ map (λ e. e.1) (entries (group_at text_cmp rows expert))
queue_rows-group w rows in_step expert =
    let queue : FinMap name_cmp QueueRow =
    select (λ name q. Some (queue_row name q)) (queue_of expert w) in
    let has : (n : RequestName)
    → get rows (expert, n) ≡ lookup (is_at (name_cmp n)) (entries queue) =
    λ n. in_step expert n ∙ sym (each_some (queue_row n) (get (queue_of expert w) n))
    ∙ sym (get-select name_keys (λ name q. Some (queue_row name q)) (queue_of expert w) n)
    ∙ get-entries queue n ∙ find_is name_cmp n (entries queue) in
    sym (rows-keyed (entries (queue_of expert w)))
    ∙ ap (map (λ r. r.1))
    (sym (entries-select name_keys (λ name q. Some (queue_row name q)) (queue_of expert w)))
    ∙ sym (rows-group expert (entries queue))
    ∙ ap (map (λ e. e.1))
    (sym (group_is text_keys name_keys rows expert (entries queue) (entries_sorted queue) has))
