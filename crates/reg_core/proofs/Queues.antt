-- What an account's queue has, and how a change of the account's own changes it, and what it sees of
-- its principals.
use Rattle.std.proofs.Common.{◌≡◌, ℕ, Bool, true, false, cond, List, refl, sym, ap, ◌∙◌}
use Rattle.std.specs.Prelude.{Option, Some, None, option_map, option_and_then, not, ◌&&◌}
use Rattle.std.specs.Cmp.{second_so}
use Rattle.std.specs.declared.cmp.Ordering.{Ordering}
use Rattle.std.specs.declared.cmp.Ordering.TheVariants.{Less, Equal, Greater}
use Rattle.std.specs.Ordering.{eq_by_cmp, is_eq, ordering_then}
use Rattle.std.specs.FinMap.{FinMap, get, insert, contains_key}
use Rattle.std.proofs.lemmas.Bool.{not-true}
use Rattle.reg_maps.specs.Maps.{text_cmp, same_text, only_if, select, update}
use Rattle.reg_maps.proofs.MapLaws.{tied, same_at, get-select, get-at_insert, get-inserted, get-update}
use Rattle.reg_core.specs.Names.{is_name}
use Rattle.reg_core.specs.Queue.{with_advice}
use Rattle.reg_core.specs.View.{Queued, as_queued, queued_to, queue_of, principal_rows_of}
use Rattle.reg_core.specs.WellKept.{WellKept}
use Rattle.reg_core.specs.World.{World, RequestName, name_cmp}
use Rattle.reg_core.specs.declared.advice.Advice.{Advice}
use Rattle.reg_core.specs.declared.request.Case.{Case}
use Rattle.reg_core.proofs.SamenessIsDecided.{same_text-itself}
use Rattle.reg_core.proofs.KeyOrders.{name_keys, seat_keys}

pub get-queue_of : (account : List ℕ) (w : World) (name : RequestName)
    → get (queue_of account w) name
    ≡ option_and_then (queued_to account w name) (get w.requests name)
get-queue_of account w name =
    get-select name_keys (λ name case. queued_to account w name case) w.requests name

-- ---- A queued request

-- a request that is queued to the account, as the world has it
pub record IsQueued (account : List ℕ) (w : World) (name : RequestName)
    (queued : Queued) : Type 0 where
  pub case : Case
  pub is_there : get w.requests name ≡ Some case
  pub assigned : contains_key w.queue (name, account) ≡ true
  pub shows : as_queued (get w.advice (name, account)) case ≡ queued

pub queued_found : (account : List ℕ) (w : World) (name : RequestName) (queued : Queued)
    → get (queue_of account w) name ≡ Some queued → IsQueued account w name queued
queued_found account w name queued h =
    from (get w.requests name) refl (sym (get-queue_of account w name) ∙ h)
  where
    shown : (case : Case) → get w.requests name ≡ Some case → (b : Bool)
        → contains_key w.queue (name, account) ≡ b
        → only_if b (as_queued (get w.advice (name, account)) case) ≡ Some queued
        → IsQueued account w name queued
    shown case is_there true t h =
        record { case = case; is_there = is_there; assigned = t; shows = cc }
    shown case is_there false t h = absurd (cc)

    from : (o : Option Case) → get w.requests name ≡ o
        → option_and_then (queued_to account w name) o ≡ Some queued
        → IsQueued account w name queued
    from None is_there h = absurd (cc)
    from (Some case) is_there h = shown case is_there (contains_key w.queue (name, account)) refl h

pub found_queued : (account : List ℕ) (w : World) (name : RequestName) (case : Case)
    → get w.requests name ≡ Some case → contains_key w.queue (name, account) ≡ true
    → get (queue_of account w) name ≡ Some (as_queued (get w.advice (name, account)) case)
found_queued account w name case is_there assigned =
    get-queue_of account w name ∙ ap (option_and_then (queued_to account w name)) is_there
    ∙ ap (λ b. only_if b (as_queued (get w.advice (name, account)) case)) assigned

-- ---- Own requests

-- the maps have the same requests of others
abbrev pub SameOthers : List ℕ → FinMap name_cmp Case → FinMap name_cmp Case → Type 0
SameOthers account m n =
    (name : RequestName) → same_text account name.0 ≡ false → get m name ≡ get n name

module _ (account reference : List ℕ) (m : FinMap name_cmp Case) where
  own_apart : (name : RequestName) → same_text account name.0 ≡ false
      → eq_by_cmp name_cmp name (account, reference) ≡ true → ⊥
  own_apart name other t =
      let own : same_text account name.0 ≡ true =
      ap (λ (n : RequestName). same_text account n.0)
      (tied name_keys name (account, reference) t) ∙ same_text-itself account in
      cc

  pub others_after_insert : (case : Case)
      → SameOthers account (insert m (account, reference) case) m
  others_after_insert case name other =
      get-at_insert name_keys m (account, reference) case name
      ∙ by (eq_by_cmp name_cmp name (account, reference)) refl
    where
      by : (b : Bool) → eq_by_cmp name_cmp name (account, reference) ≡ b
          → cond b (Some case) (get m name) ≡ get m name
      by true t = absurd (own_apart name other t)
      by false t = refl

  pub others_after_update : (f : Case → Case)
      → SameOthers account (update m (account, reference) f) m
  others_after_update f name other =
      get-update name_keys m (account, reference) f name
      ∙ by (eq_by_cmp name_cmp name (account, reference)) refl
    where
      by : (b : Bool) → eq_by_cmp name_cmp name (account, reference) ≡ b
          → cond b (option_map f (get m (account, reference))) (get m name) ≡ get m name
      by true t = absurd (own_apart name other t)
      by false t = refl

-- what is shown of requests of others alone does not change with an account's own
pub others_same : {Y : Type 0} (account : List ℕ) (shows : RequestName → Bool)
    (row : RequestName → Case → Y) (m n : FinMap name_cmp Case)
    → ((name : RequestName) → shows name ≡ true → same_text account name.0 ≡ false)
    → SameOthers account m n
    → select (λ name case. only_if (shows name) (row name case)) m
    ≡ select (λ name case. only_if (shows name) (row name case)) n
others_same {Y = Y} account shows row m n others same = same_at name_keys _ _ (λ name.
    get-select name_keys (λ name case. only_if (shows name) (row name case)) m name
    ∙ by name (shows name) refl
    ∙ sym (get-select name_keys (λ name case. only_if (shows name) (row name case)) n name))
  where
    none : (shown : Case → Y) (o r : Option Case)
        → option_and_then (λ case. only_if false (shown case)) o
        ≡ option_and_then (λ case. only_if false (shown case)) r
    none shown None None = refl
    none shown None (Some case) = refl
    none shown (Some case) None = refl
    none shown (Some case) (Some old) = refl

    by : (name : RequestName) (b : Bool) → shows name ≡ b
        → option_and_then (λ case. only_if b (row name case)) (get m name)
        ≡ option_and_then (λ case. only_if b (row name case)) (get n name)
    by name true t =
        ap (option_and_then (λ case. only_if true (row name case))) (same name (others name t))
    by name false t = none (row name) (get m name) (get n name)

-- no request is queued to its applicant, so an account's queue does not change with its own
-- requests
pub queue_same : (account : List ℕ) (w : World) (requests : FinMap name_cmp Case) → WellKept w
    → SameOthers account requests w.requests
    → queue_of account (record w { requests = requests }) ≡ queue_of account w
queue_same account w requests kept =
    others_same account (λ name. contains_key w.queue (name, account))
    (λ name case. as_queued (get w.advice (name, account)) case) requests w.requests
    (λ name t. not-true (same_text account name.0)
    (second_so (is_name account) (not (same_text account name.0)) (kept.queue (name, account) t)))

-- nor do the requests of its principals, since no account is its own agent
pub principal_rows_same : (account : List ℕ) (w : World) (requests : FinMap name_cmp Case)
    → WellKept w → SameOthers account requests w.requests
    → principal_rows_of account (record w { requests = requests }) ≡ principal_rows_of account w
principal_rows_same account w requests kept =
    others_same account (λ name. contains_key w.agents (name.0, account)) (λ name case. case)
    requests w.requests
    (λ name t. not-true (same_text account name.0)
    (second_so (is_name name.0 && is_name account) (not (same_text account name.0))
    (kept.agents (name.0, account) t)))

-- ---- Own advice

other_seat : (r s : Ordering) → is_eq r ≡ false → is_eq (ordering_then r s) ≡ false
other_seat Less s h = refl
other_seat Equal s h = absurd (cc)
other_seat Greater s h = refl

-- an account's own advice stands in its queue
pub queue_advised : (account : List ℕ) (w : World) (name : RequestName) (advice : Advice)
    → queue_of account (record w { advice = insert w.advice (name, account) advice })
    ≡ update (queue_of account w) name (with_advice advice)
queue_advised account w name advice =
    same_at name_keys _ _ (λ other. by other (eq_by_cmp name_cmp other name) refl)
  where
    v : World
    v = record w { advice = insert w.advice (name, account) advice }

    replaced_row : (b : Bool) (old : Option Advice) (o : Option Case)
        → option_and_then (λ case. only_if b (as_queued (Some advice) case)) o
        ≡ option_map (with_advice advice)
        (option_and_then (λ case. only_if b (as_queued old case)) o)
    replaced_row true old None = refl
    replaced_row false old None = refl
    replaced_row true old (Some case) = refl
    replaced_row false old (Some case) = refl

    at_name : get (queue_of account v) name
        ≡ option_map (with_advice advice) (get (queue_of account w) name)
    at_name =
        get-queue_of account v name
        ∙ ap (λ given.
        option_and_then
        (λ case. only_if (contains_key w.queue (name, account)) (as_queued given case))
        (get w.requests name)) (get-inserted seat_keys w.advice (name, account) advice)
        ∙ replaced_row (contains_key w.queue (name, account)) (get w.advice (name, account))
        (get w.requests name)
        ∙ ap (option_map (with_advice advice)) (sym (get-queue_of account w name))

    at_other : (other : RequestName) → eq_by_cmp name_cmp other name ≡ false
        → get (queue_of account v) other ≡ get (queue_of account w) other
    at_other other t =
        get-queue_of account v other
        ∙ ap (λ given.
        option_and_then
        (λ case. only_if (contains_key w.queue (other, account)) (as_queued given case))
        (get w.requests other))
        (get-at_insert seat_keys w.advice (name, account) advice (other, account)
        ∙ ap (λ b. cond b (Some advice) (get w.advice (other, account)))
        (other_seat (name_cmp other name) (text_cmp account account) t))
        ∙ sym (get-queue_of account w other)

    by : (other : RequestName) (b : Bool) → eq_by_cmp name_cmp other name ≡ b
        → get (queue_of account v) other
        ≡ get (update (queue_of account w) name (with_advice advice)) other
    by other true t =
        ap (get (queue_of account v)) (tied name_keys other name t) ∙ at_name
        ∙ sym (get-update name_keys (queue_of account w) name (with_advice advice) other
        ∙ ap (λ b. cond b (option_map (with_advice advice) (get (queue_of account w) name))
        (get (queue_of account w) other)) t)
    by other false t =
        at_other other t
        ∙ sym (get-update name_keys (queue_of account w) name (with_advice advice) other
        ∙ ap (λ b. cond b (option_map (with_advice advice) (get (queue_of account w) name))
        (get (queue_of account w) other)) t)
