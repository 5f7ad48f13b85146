-- A world with a row more is well kept where it was so without the row, and the row fits it.
use Rattle.std.proofs.Common.{◌≡◌, ℕ, Bool, true, false, cond, ◌&&◌, List, refl, sym, ap, ◌∙◌, inl, inr}
use Rattle.std.specs.Prelude.{Option, Some, None, IsSome, IsTrue, is_some, not, ◌⊎◌}
use Rattle.std.specs.Cmp.{second_so}
use Rattle.std.specs.FinMap as map
use Rattle.std.specs.FinMap.{FinMap, get, insert}
use Rattle.std.specs.Ordering.{eq_by_cmp}
use Rattle.std.specs.declared.cmp.Ordering.{Ordering}
use Rattle.reg_maps.specs.Maps.{same_text, update}
use Rattle.reg_maps.proofs.KeySets.{is_inserted, still_in}
use Rattle.reg_maps.proofs.MapLaws.{IsKeyOrder, text_keys, number_keys, tied, get-at_insert, get-inserted}
use Rattle.reg_ranges.specs.Texts.{is_text}
use Rattle.reg_core.specs.Entry.{registration_in, with_hold}
use Rattle.reg_core.specs.Holding.{holder_in}
use Rattle.reg_core.specs.MayBeGiven.{place_of}
use Rattle.reg_core.specs.Minutes.{with_minute}
use Rattle.reg_core.specs.Names.{is_name}
use Rattle.reg_core.specs.Request.{case_of}
use Rattle.reg_core.specs.WellKept.{WellKept}
use Rattle.reg_core.specs.World.{World, RequestName, name_cmp}
use Rattle.reg_core.specs.declared.holding.Holding.{Holding}
use Rattle.reg_core.specs.declared.request.Case.{Case}
use Rattle.reg_core.proofs.Keeping.Changes.{can_grant, can_define, can_add_pool, can_assign, can_advise}
use Rattle.reg_core.proofs.Keeping.OtherMaps.{with_entry, with_hold_set, with_request, with_change, with_block, with_link}
use Rattle.reg_core.proofs.KeyOrders.{name_keys, place_keys, seat_keys, block_keys, link_keys}
use Rattle.reg_opening.specs.Laws.{IsPart, RowsDecide}
use Rattle.reg_opening.specs.Rows.{with_row, has_row_form, is_markable, is_unminuted, lacks_minute, IsNew, IsInTurn, Fits, IsApart, name_of, seat_of}
use Rattle.reg_opening.specs.declared.row.Row.{Row}
use Rattle.reg_opening.specs.declared.row.Row.TheVariants as row
use Rattle.reg_opening.proofs.Minutes.{changed_row, named_stands, request_raised}
use Rattle.reg_opening.proofs.AuditParts.{no_row, part_itself, part_kept, more_entries, more_requests}

-- ---- Rows that are there stay

-- a row that is there is so after another key is added
still_row : {K X : Type 0} {R : K → K → Ordering} → IsKeyOrder R → (m : FinMap R X) (k : K) (v : X)
    → get m k ≡ None → (q : K) (x : X) → get m q ≡ Some x → get (insert m k v) q ≡ Some x
still_row {R = R} o m k v new q x there =
    get-at_insert o m k v q ∙ by (eq_by_cmp R q k) refl
  where
    by : (b : Bool) → eq_by_cmp R q k ≡ b → cond b (Some v) (get m q) ≡ Some x
    by true t =
        let gone : get m q ≡ None = ap (get m) (tied o q k t) ∙ new in absurd (cc)
    by false t = there

-- an entry is as it was, or marked
marked_row : {P Q R : Type 0} → P ⊎ (R × Q) → P ⊎ Q
marked_row (inl same) = inl same
marked_row (inr changed) = inr changed.1

-- a request is as it was, or names the minute now
minuted_row : {P : Type 0} (Q : List ℕ → Type 0) (requests : FinMap name_cmp Case)
    (name : RequestName) (minute : List ℕ) (case : Case)
    → is_unminuted (get requests name) ≡ true
    → P ⊎ ((get requests name ≡ Some case) × Q minute)
    → P ⊎ ((minute : List ℕ) × (lacks_minute case.ask ≡ true) × Q minute)
minuted_row Q requests name minute case lacks (inl same) = inl same
minuted_row Q requests name minute case lacks (inr changed) =
    inr (minute, sym (ap is_unminuted changed.0) ∙ lacks, changed.1)

-- the rows of a world are part of those of the world with a row more
pub part_of_next : (w : World) (next : Row) → IsInTurn w next → IsNew w next
    → IsPart w (with_row w next)
part_of_next w (row.Cap digest cap) turn new =
    assumption (still_row text_keys w.caps digest cap new, part_itself w)
part_of_next w (row.Registry name table) turn new =
    let all : (w.entries ≡ map.empty) ⊎ (w.registries ≡ insert w.registries name table) = inl turn in
    assumption (still_row text_keys w.registries name table new, all, part_itself w)
part_of_next w (row.Entry entry) turn new =
    let a = registration_in entry in
    more_entries w (insert w.entries (place_of entry) a) turn (λ place old there.
    inl (still_row place_keys w.entries (place_of entry) a new place old there))
part_of_next w (row.Hold registry value) turn new =
    more_entries w (update w.entries (registry, value) (with_hold true)) turn (λ place a there.
    marked_row (changed_row place_keys w.entries (registry, value) (with_hold true) place a there))
part_of_next w (row.Prefix prefix) turn new =
    let all : (w.blocks ≡ map.empty) ⊎ (w.pool ≡ insert w.pool prefix tt) = inl turn in
    assumption (still_in number_keys w.pool prefix tt, all, part_itself w)
part_of_next w (row.Block holding) turn new =
    let after = insert w.blocks holding.block (holder_in holding) in
    let all : (w.requests ≡ map.empty) ⊎ ((w.entries ≡ w.entries) × (w.blocks ≡ after)) = inl turn in
    assumption (still_row block_keys w.blocks holding.block (holder_in holding) new, all, part_itself w)
part_of_next w (row.Request request) turn new =
    let case = case_of request in
    more_requests w (insert w.requests (name_of request) case) turn (λ name old there.
    inl (still_row name_keys w.requests (name_of request) case new name old there))
part_of_next w (row.Minute account reference minute) turn new =
    let after = update w.requests (account, reference) (with_minute (Some minute)) in
    more_requests w after turn (λ name case there.
    minuted_row (λ other. get after name ≡ Some (with_minute (Some other) case)) w.requests
    (account, reference) minute case new
    (changed_row name_keys w.requests (account, reference) (with_minute (Some minute)) name case
    there))
part_of_next w (row.Seat account reference expert) turn new =
    let seat = seat_of account reference expert in
    let all : (w.advice ≡ map.empty) ⊎ (w.queue ≡ insert w.queue seat tt) = inl turn in
    assumption (still_in seat_keys w.queue seat tt, all, part_itself w)
part_of_next w (row.Advice account reference expert advice) turn new =
    let seat = seat_of account reference expert in
    assumption (still_row seat_keys w.advice seat advice new, part_itself w)
part_of_next w (row.Link principal agent) turn new =
    assumption (still_in link_keys w.agents (principal, agent) tt, part_itself w)

-- ---- A row of a well kept world fits

-- a block of a well kept world shares no address with another
apart_from_others : (w : World) (holding : Holding) → get w.blocks holding.block ≡ None
    → WellKept (with_row w (row.Block holding)) → IsApart w.blocks holding.block
apart_from_others w holding new kept other there clash =
    let h = holder_in holding in
    let same = kept.apart holding.block other (is_inserted block_keys w.blocks holding.block h)
    (still_in block_keys w.blocks holding.block h other there) clash in
    let gone = ap is_some (ap (get w.blocks) (sym same) ∙ new) in
    absurd (cc)

pub next_fits : (w : World) (next : Row) → IsNew w next → WellKept (with_row w next)
    → Fits w next
next_fits w (row.Entry entry) new kept =
    let there = get-inserted place_keys w.entries (place_of entry) (registration_in entry) in (
      kept.open_values (place_of entry) (registration_in entry) there,
      kept.held (place_of entry) (registration_in entry) there,
    )
next_fits w (row.Prefix prefix) new kept =
    kept.pool prefix (is_inserted number_keys w.pool prefix tt)
next_fits w (row.Block holding) new kept = (
  kept.in_pool holding.block (holder_in holding)
      (get-inserted block_keys w.blocks holding.block (holder_in holding)),
  apart_from_others w holding new kept,
)
next_fits w (row.Request request) new kept =
    kept.given (name_of request) (case_of request)
    (get-inserted name_keys w.requests (name_of request) (case_of request))
next_fits w (row.Seat account reference expert) new kept =
    let seat = seat_of account reference expert in
    let there = is_inserted seat_keys w.queue seat tt in (
      second_so (is_name expert) (not (same_text expert account)) (kept.queue seat there),
      kept.queued seat there,
    )
next_fits w (row.Advice account reference expert advice) new kept =
    let seat = seat_of account reference expert in
    kept.advised seat advice (get-inserted seat_keys w.advice seat advice)
next_fits w (row.Link principal agent) new kept =
    second_so (is_name principal && is_name agent) (not (same_text agent principal))
    (kept.agents (principal, agent) (is_inserted link_keys w.agents (principal, agent) tt))
next_fits w _ new kept = tt

-- ---- A row that fits leaves a world well kept

assignment_kept : (w : World) (account reference expert : List ℕ) → WellKept w
    → is_name expert ≡ true → IsNew w (row.Seat account reference expert)
    → same_text expert account ≡ false → (o : Option Case)
    → get w.requests (account, reference) ≡ o → IsSome o
    → WellKept (with_row w (row.Seat account reference expert))
assignment_kept w account reference expert kept form new other None is there = absurd (cc)
assignment_kept w account reference expert kept form new other (Some case) is there =
    (can_assign w (account, reference) case expert kept is form other new).1

not_so : (b : Bool) → not b ≡ true → b ≡ false
not_so true h = absurd (cc)
not_so false h = refl

pub next_kept : (w : World) (next : Row) → IsTrue (has_row_form next) → IsInTurn w next
    → IsNew w next → WellKept w → Fits w next → WellKept (with_row w next)
next_kept w (row.Cap digest cap) form turn new kept fits =
    (can_grant w digest cap kept form new).1
next_kept w (row.Registry name table) form turn new kept fits =
    (can_define w name table kept form new).1
next_kept w (row.Entry entry) form turn new kept fits =
    with_entry w kept (place_of entry) (registration_in entry) form fits.0 fits.1
    (λ name case. no_row w.requests turn name case)
next_kept w (row.Hold registry value) form turn new kept fits =
    with_hold_set w kept (registry, value) true
    (λ a there. second_so (not a.term.held) (is_some a.term.expires)
    (sym (ap is_markable there) ∙ new))
    (λ name case. no_row w.requests turn name case)
next_kept w (row.Prefix prefix) form turn new kept fits =
    (can_add_pool w prefix kept fits new).1
next_kept w (row.Block holding) form turn new kept fits =
    with_block w kept holding.block (holder_in holding) form fits.0 fits.1
    (λ name case. no_row w.requests turn name case)
next_kept w (row.Request request) form turn new kept fits =
    with_request w kept (name_of request) (case_of request) form fits
next_kept w (row.Minute account reference minute) form turn new kept fits =
    let name : RequestName = (account, reference) in
    let text = second_so (is_name account && is_name reference) (is_text minute) form in
    with_change w kept name (with_minute (Some minute))
    (λ case there. request_raised name minute case text (kept.requests name case there))
    (λ case there.
    named_stands w.entries w.blocks account minute case.ask case.state
    ∙ kept.given name case there)
next_kept w (row.Seat account reference expert) form turn new kept fits =
    assignment_kept w account reference expert kept
    (second_so (is_name account && is_name reference) (is_name expert) form) new
    (not_so (same_text expert account) fits.0) (get w.requests (account, reference)) refl fits.1
next_kept w (row.Advice account reference expert advice) form turn new kept fits =
    (can_advise w (account, reference) expert advice kept fits
    (second_so (is_name account && is_name reference && is_name expert) _ form)).1
next_kept w (row.Link principal agent) form turn new kept fits =
    with_link w kept (principal, agent)
    (ap (λ named. named && not (same_text agent principal)) form ∙ fits)

pub rows_decide : RowsDecide
rows_decide w next form turn new = (
  λ kept. (
    part_kept w (with_row w next) (part_of_next w next turn new) kept,
    next_fits w next new kept,
  ),
  λ both. next_kept w next form turn new both.0 both.1,
)
