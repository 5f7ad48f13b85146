-- Two worlds that agree but for requests that an account does not see show the account the same.
use Rattle.std.proofs.Common.{◌≡◌, ℕ, Bool, true, false, cond, not, List, [], ◌∷◌, refl, sym, ap, ◌∙◌, inl, inr}
use Rattle.std.specs.Prelude.{Option, Some, None, find, option_and_then, option_map, is_some, if◌then◌else◌}
use Rattle.reg_core.proofs.Common.{FinMap, get, contains_key, or_cases, both_ways, bytes_eq-Decides}
use Rattle.reg_core.proofs.Common.{same_text, only_if, same_name, seats_of, published, personal}
use Rattle.reg_core.proofs.Common.{requests_of, requests_by, queue_of, principal_rows_of, queued_to}
use Rattle.reg_core.proofs.Common.{as_queued, cap_at, with_personal, World, RequestName, Seat, seat_cmp}
use Rattle.reg_core.proofs.Common.{name_keys, seat_keys, false_from_ne_true, is_hidden, is_pending}
use Rattle.reg_core.proofs.Common.{deed_about, acts_without, decides, submits, last_moment}
use Rattle.reg_core.proofs.Common.{own_times, times_by, times_of, times_of_requests_by, OwnTimes, Times}
use Rattle.reg_laws.proofs.Types.{Act, Cap, Case, Deed}
use Rattle.reg_maps.proofs.HiddenKeys.{AgreeBut, NoneAt, ChooseAlike, both_select, same_select}
use Rattle.reg_core.specs.Striking.{has_account, ShowSame}
use Rattle.reg_core.specs.declared.journal.Deed.TheVariants as did
use Rattle.reg_core.proofs.Files.{same_name-is}
use Rattle.reg_laws.proofs.Striking.Worlds.{at_seat, Agree, Blind, Unaware}

module _ {hidden : RequestName → Bool} {w v : World} (a : Agree hidden w v) where
  -- anybody's own requests
  pub own_agree : (of : List ℕ) → AgreeBut hidden (requests_of of w) (requests_of of v)
  own_agree of = both_select name_keys hidden _ _ _ _ (λ name h case. refl) a.requests

  queued_alike : (of : List ℕ) → ChooseAlike hidden (queued_to of w) (queued_to of v)
  queued_alike of name h case i =
      only_if (is_some (a.queue (name, of) h i)) (as_queued (a.advice (name, of) h i) case)

  -- and anybody's queue
  pub queue_agree : (of : List ℕ) → AgreeBut hidden (queue_of of w) (queue_of of v)
  queue_agree of =
      both_select name_keys hidden (queued_to of w) (queued_to of v) _ _
      (queued_alike of) a.requests

  -- and the requests of one of anybody's principals
  pub rows_agree : (of principal : List ℕ)
      → AgreeBut hidden (requests_by principal (principal_rows_of of w))
      (requests_by principal (principal_rows_of of v))
  rows_agree of principal =
      both_select name_keys hidden (by principal) (by principal) _ _ (λ name h case. refl)
      (both_select name_keys hidden (chosen w) (chosen v) _ _ alike a.requests)
    where
      by : List ℕ → RequestName → Case → Option Case
      by applicant name case = only_if (same_text name.0 applicant) case

      chosen : World → RequestName → Case → Option Case
      chosen x name case = only_if (contains_key x.agents (name.0, of)) case

      alike : ChooseAlike hidden (chosen w) (chosen v)
      alike name h case = ap (λ (x : World). chosen x name case) a.rest

-- and the times of a request that is not hidden
module _ {hidden : RequestName → Bool} {w v : World} (a : Agree hidden w v) (name : RequestName)
    (shown : hidden name ≡ false) where
  other_name : (other : RequestName) → hidden other ≡ true → same_name other name ≡ false
  other_name other h = false_from_ne_true (same_name other name) (λ t.
      both_ways (hidden name) shown (ap hidden (sym (same_name-is other name t)) ∙ h))

  -- a test that acts about hidden requests fail
  abbrev IsApart : (Deed → Bool) → Type 0
  IsApart test = (deed : Deed) → is_hidden hidden (deed_about deed) ≡ true → test deed ≡ false

  submits_apart : IsApart (submits name)
  submits_apart (did.Submit account reference) h = other_name (account, reference) h
  submits_apart deed h = refl

  decides_apart : IsApart (decides name)
  decides_apart (did.Withdraw account reference) h = other_name (account, reference) h
  decides_apart (did.Decline account reference) h = other_name (account, reference) h
  decides_apart (did.GiveValue account reference registry value) h =
      other_name (account, reference) h
  decides_apart (did.GiveBlock account reference block) h = other_name (account, reference) h
  decides_apart deed h = refl

  -- finds the same act without those
  found : (test : Deed → Bool) → IsApart test → (acts : List Act)
      → find (λ (act : Act). test act.deed) (acts_without hidden acts)
      ≡ find (λ (act : Act). test act.deed) acts
  found test apart [] = refl
  found test apart (act ∷ acts) =
      by (found test apart acts) (is_hidden hidden (deed_about act.deed)) refl
    where
      passes : Act → Bool
      passes act = test act.deed

      rest : List Act
      rest = acts_without hidden acts

      by : find passes rest ≡ find passes acts → (b : Bool)
          → is_hidden hidden (deed_about act.deed) ≡ b
          → find passes (cond (not b) (act ∷ rest) rest)
          ≡ cond (test act.deed) (Some act) (find passes acts)
      by same true h =
          same ∙ sym (ap (λ b. cond b (Some act) (find passes acts)) (apart act.deed h))
      by same false h = ap (λ found. cond (test act.deed) (Some act) found) same

  same_moment : (test : Deed → Bool) → IsApart test
      → last_moment test w.journal ≡ last_moment test v.journal
  same_moment test apart =
      ap (option_and_then (λ (act : Act). act.stamp.moment))
      (sym (found test apart w.journal) ∙ ap (find (λ (act : Act). test act.deed)) a.acts
      ∙ found test apart v.journal)

  pub times_agree : (case : Case) → times_of w.journal name case ≡ times_of v.journal name case
  times_agree case =
      let submitted = same_moment (submits name) submits_apart in
      let decided = same_moment (decides name) decides_apart in
      λ i. record {
        submitted = submitted i;
        decided = if is_pending case.state then None else decided i;
      }

-- so the times of anybody's own requests, and of those of one of anybody's principals
module _ {hidden : RequestName → Bool} {w v : World} (a : Agree hidden w v) where
  pub times_of_agree : (of : List ℕ → Bool) → AgreeBut hidden (times_by of w) (times_by of v)
  times_of_agree of = both_select name_keys hidden (chosen w) (chosen v) _ _ alike a.requests
    where
      chosen : World → RequestName → Case → Option Times
      chosen x name case = only_if (of name.0) (times_of x.journal name case)

      alike : ChooseAlike hidden (chosen w) (chosen v)
      alike name h case = ap (λ times. only_if (of name.0) times) (times_agree a name h case)

  pub principal_times_agree : (of principal : List ℕ)
      → AgreeBut hidden (times_of_requests_by principal (own_times of w).principals)
      (times_of_requests_by principal (own_times of v).principals)
  principal_times_agree of principal =
      both_select name_keys hidden by by _ _ (λ name h times. refl)
      (both_select name_keys hidden (chosen w) (chosen v) _ _ alike a.requests)
    where
      by : RequestName → Times → Option Times
      by name times = only_if (same_text name.0 principal) times

      chosen : World → RequestName → Case → Option Times
      chosen x name case =
          only_if (contains_key x.agents (name.0, of)) (times_of x.journal name case)

      alike : ChooseAlike hidden (chosen w) (chosen v)
      alike name h case =
          let reads = ap (λ (x : World). contains_key x.agents (name.0, of)) a.rest in
          let times = times_agree a name h case in
          λ i. only_if (reads i) (times i)

-- and the rows of one request
pub seats_same : {X : Type 0} (hidden : RequestName → Bool) (m n : FinMap seat_cmp X)
    → AgreeBut (at_seat hidden) m n → (name : RequestName) → hidden name ≡ false
    → seats_of name m ≡ seats_of name n
seats_same {X = X} hidden m n agree name h =
    same_select seat_keys (at_seat hidden) its its m n (λ seat k x. refl) agree none none
  where
    its : Seat → X → Option X
    its seat x = only_if (same_name seat.0 name) x

    by : (seat : Seat) (x : X) → hidden seat.0 ≡ true
        → (b : Bool) → same_name seat.0 name ≡ b → only_if b x ≡ None
    by seat x k true t =
        let named = same_name-is seat.0 name t in
        absurd (both_ways (hidden name) h (ap hidden (sym named) ∙ k))
    by seat x k false t = refl

    none : NoneAt (at_seat hidden) its
    none seat k x = by seat x k (same_name seat.0 name) refl

-- ---- What the account sees

module _
    (account : List ℕ) (hidden : RequestName → Bool) (w v : World)
    (un : Unaware account hidden w v) where
  requests_same : requests_of account w ≡ requests_of account v
  requests_same =
      same_select name_keys hidden own own _ _ (λ name h case. refl) un.agree.requests none none
    where
      own : RequestName → Case → Option Case
      own name case = only_if (same_text name.0 account) case

      none : NoneAt hidden own
      none name h case = ap (λ b. only_if b case) (un.not_own name h)

  queue_same : queue_of account w ≡ queue_of account v
  queue_same =
      same_select name_keys hidden (queued_to account w) (queued_to account v) _ _
      (queued_alike un.agree account) un.agree.requests (none w un.blind_w) (none v un.blind_v)
    where
      none : (x : World) → Blind account hidden x → NoneAt hidden (queued_to account x)
      none x blind name h case =
          let queued = as_queued (get x.advice (name, account)) case in
          ap (λ seat. only_if (is_some seat) queued) (blind.no_seat name h)

  rows_same : principal_rows_of account w ≡ principal_rows_of account v
  rows_same =
      same_select name_keys hidden (chosen w) (chosen v) _ _ alike un.agree.requests
      (none w un.blind_w) (none v un.blind_v)
    where
      chosen : World → RequestName → Case → Option Case
      chosen x name case = only_if (contains_key x.agents (name.0, account)) case

      alike : ChooseAlike hidden (chosen w) (chosen v)
      alike name h case = ap (λ (x : World). chosen x name case) un.agree.rest

      none : (x : World) → Blind account hidden x → NoneAt hidden (chosen x)
      none x blind name h case = ap (λ b. only_if b case) (blind.no_link name h)

  own_times_same : times_by (λ applicant. same_text applicant account) w
      ≡ times_by (λ applicant. same_text applicant account) v
  own_times_same =
      same_select name_keys hidden (own w) (own v) _ _ alike un.agree.requests (none w) (none v)
    where
      own : World → RequestName → Case → Option Times
      own x name case = only_if (same_text name.0 account) (times_of x.journal name case)

      alike : ChooseAlike hidden (own w) (own v)
      alike name h case =
          ap (λ times. only_if (same_text name.0 account) times) (times_agree un.agree name h case)

      none : (x : World) → NoneAt hidden (own x)
      none x name h case =
          ap (λ b. only_if b (times_of x.journal name case)) (un.not_own name h)

  principal_times_same : times_by (λ applicant. contains_key w.agents (applicant, account)) w
      ≡ times_by (λ applicant. contains_key v.agents (applicant, account)) v
  principal_times_same =
      same_select name_keys hidden (chosen w) (chosen v) _ _ alike un.agree.requests
      (none w un.blind_w) (none v un.blind_v)
    where
      chosen : World → RequestName → Case → Option Times
      chosen x name case =
          only_if (contains_key x.agents (name.0, account)) (times_of x.journal name case)

      alike : ChooseAlike hidden (chosen w) (chosen v)
      alike name h case =
          let reads = ap (λ (x : World). contains_key x.agents (name.0, account)) un.agree.rest in
          let times = times_agree un.agree name h case in
          λ i. only_if (reads i) (times i)

      none : (x : World) → Blind account hidden x → NoneAt hidden (chosen x)
      none x blind name h case =
          ap (λ b. only_if b (times_of x.journal name case)) (blind.no_link name h)

  times_same : own_times account w ≡ own_times account v
  times_same = λ i. record { own = own_times_same i; principals = principal_times_same i }

  -- so for every capability of the account's
  pub same_times_of : (of : List ℕ) → same_text of account ≡ true → own_times of w ≡ own_times of v
  same_times_of of h =
      let mine = (bytes_eq-Decides of account).0 h in
      ap (λ of. own_times of w) mine ∙ times_same ∙ sym (ap (λ of. own_times of v) mine)

  pub personal_same : (of : List ℕ) → same_text of account ≡ true → personal of w ≡ personal of v
  personal_same of h =
      let mine = (bytes_eq-Decides of account).0 h in
      ap (λ of. personal of w) mine
      ∙ (λ i. record (personal account (un.agree.rest i)) {
        requests = requests_same i;
        queue = queue_same i;
        principal_rows = rows_same i;
      })
      ∙ sym (ap (λ of. personal of v) mine)

  me_same : (existing : Option Cap) → has_account account existing ≡ true
      → option_map (with_personal w) existing ≡ option_map (with_personal v) existing
  me_same None h = refl
  me_same (Some cap) h = ap (λ my. Some (cap, my)) (personal_same cap.account h)

  abbrev times_with : World → Cap → OwnTimes
  times_with x cap = own_times cap.account x

  my_times_same : (existing : Option Cap) → has_account account existing ≡ true
      → option_map (times_with w) existing ≡ option_map (times_with v) existing
  my_times_same None h = refl
  my_times_same (Some cap) h = ap Some (same_times_of cap.account h)

  pub show_same : ShowSame account w v
  show_same = record {
    published = ap published un.agree.rest;
    views = λ caller h.
        let caps : cap_at w caller ≡ cap_at v caller = ap (λ x. cap_at x caller) un.agree.rest in
        let mine : has_account account (cap_at w caller) ≡ true =
        elim (or_cases (has_account account (cap_at w caller)) _ h) [
          | inl first ↦ first
          | inr second ↦ ap (has_account account) caps ∙ second
        ] in
        let me = me_same (cap_at w caller) mine ∙ ap (option_map (with_personal v)) caps in
        let times =
        my_times_same (cap_at w caller) mine ∙ ap (option_map (times_with v)) caps in
        λ i. record { published = ap published un.agree.rest i; me = me i; times = times i };
  }
