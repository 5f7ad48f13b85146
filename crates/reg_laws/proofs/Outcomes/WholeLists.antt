-- Pages and listings, an account's own list, its holdings and an expert's queue are whole.
use Rattle.std.proofs.Common.{◌≡◌, ℕ, Bool, true, false, List, not, refl, sym, ap, subst, ◌∙◌}
use Rattle.std.specs.Prelude.{Option, Some, None, option_and_then}
use Rattle.reg_core.proofs.Common.{FinMap, get, entries, only_if, get-select, All-entries, Contains-map}
use Rattle.reg_core.proofs.Common.{Contains-entries, ascending-entries, page_entry, SizedPrefix}
use Rattle.reg_core.proofs.Common.{block_cmp, queue_row, queue_rows, request_row}
use Rattle.reg_laws.proofs.Types.{Holder, Holding}
use Rattle.reg_core.proofs.Common.{request_rows, published, entries_of, Queued, as_queued, requests_of}
use Rattle.reg_core.proofs.Common.{holdings_of, queue_of, World, Place, RequestName, name_cmp, place_cmp}
use Rattle.reg_core.proofs.Common.{bytes_eq-Decides, same_text, same_text-itself, times_by, times_of, times_row, times_rows, Times}
use Rattle.reg_core.proofs.Common.{name_keys, place_keys}
use Rattle.reg_laws.proofs.Types.{PageEntry, Registration, Case, Request}
use Rattle.reg_core.proofs.Common.{block_keys, IsQueued, queued_found, found_queued}
use Rattle.std.proofs.lemmas.List.Elements.{All-map}
use Rattle.reg_core.specs.Lists.{EntryList, ShowsEntry, ShowsStanding, BlockList, ShowsHolder, ShowsHeld, HasRowOf, HasHoldingOf, HoldingList, HasTimesOf, IsItem, OwnList, QueueList, TimesList}
use Rattle.reg_core.specs.declared.request.RequestTimes.{RequestTimes}
use Rattle.reg_early.proofs.TermsInWords.{assigned, temporary, held as held_term, expired}
use Rattle.reg_core.specs.Page.{page_entries}
use Rattle.reg_core.specs.Holding.{ShownHolding, masked, masked_blocks, listed_row, listed_rows, holding_row, holding_rows}
use Rattle.reg_core.specs.declared.holding.Listed.{Listed}
use Rattle.reg_core.specs.declared.queue.QueueRow.{QueueRow}
use Rattle.reg_core.proofs.Blocks.{holding_found, own_holding}
use Rattle.reg_core.proofs.ValuesIn.{own_found, found_own, page_ascends}
use Rattle.reg_core.proofs.Stepping.{own_request, own_row_found}

-- ---- Registers

module _ (w : World) (name : List ℕ) (today : ℕ) where
  abbrev registered : FinMap place_cmp Registration
  registered = entries_of name w.entries

  abbrev page_row : Place × Registration → PageEntry
  page_row e = page_entry today e.0.1 e.1

  shows_entry : (v : ℕ) (a : Registration) → ShowsEntry today a (page_entry today v a)
  shows_entry v a = record {
    label = refl;
    assignee = refl;
    term = refl;
    assigned = assigned a.term today;
    temporary = λ expiry. temporary a.term expiry today;
    held = λ expiry. held_term a.term expiry today;
    expired = λ expiry. expired a.term expiry today;
  }

  pub entry_list : EntryList w name today (page_entries (published w) name today)
  entry_list = record {
    viewed = refl;
    standing = All-map (ShowsStanding w name today) page_row (entries registered)
        (All-entries place_keys.total (λ e. ShowsStanding w name today (page_row e)) registered
        (λ place a found. (a, own_found name w.entries place a found, shows_entry place.1 a)));
    every = λ v a is. (
      page_entry today v a,
      Contains-map page_row (entries registered) ((name, v), a)
          (Contains-entries place_keys registered (name, v) a (found_own name w.entries v a is)),
      refl,
      shows_entry v a,
    );
    ascending = page_ascends name w.entries today;
  }

module _ (w : World) where
  abbrev given : FinMap block_cmp ShownHolding
  given = masked_blocks w.blocks

  abbrev given_row : SizedPrefix × ShownHolding → Listed
  given_row e = listed_row e.0 e.1

  shows_holder : (block : SizedPrefix) (h : Holder) → ShowsHolder h (listed_row block (masked h))
  shows_holder block h = record {
    listed = λ is. (
      ap (λ b. only_if (not b) h.organization) is,
      ap (λ b. only_if (not b) h.address) is,
    );
    hidden = λ is. (
      ap (λ b. only_if (not b) h.organization) is,
      ap (λ b. only_if (not b) h.address) is,
    );
  }

  -- what is shown at a block is its holder, as the public sees it
  held_there : (block : SizedPrefix) (shown : ShownHolding) (existing : Option Holder)
      → get w.blocks block ≡ existing
      → option_and_then (λ h. Some (masked h)) existing ≡ Some shown
      → ShowsHeld w (listed_row block shown)
  held_there block shown None is e = absurd (cc)
  held_there block shown (Some h) is e =
      let same : masked h ≡ shown = cc in
      (h, is, subst (λ s. ShowsHolder h (listed_row block s)) same (shows_holder block h))

  shown_at : (block : SizedPrefix)
      → get given block ≡ option_and_then (λ h. Some (masked h)) (get w.blocks block)
  shown_at block = get-select block_keys (λ block h. Some (masked h)) w.blocks block

  pub block_list : BlockList w (listed_rows given)
  block_list = record {
    viewed = refl;
    given = All-map (ShowsHeld w) given_row (entries given)
        (All-entries block_keys.total (λ e. ShowsHeld w (given_row e)) given
        (λ block shown found.
        held_there block shown (get w.blocks block) refl (sym (shown_at block) ∙ found)));
    every = λ block h is. (
      listed_row block (masked h),
      Contains-map given_row (entries given) (block, masked h)
          (Contains-entries block_keys given block (masked h)
          (shown_at block ∙ ap (option_and_then (λ h. Some (masked h))) is)),
      refl,
      shows_holder block h,
    );
    ascending = ascending-entries block_cmp given_row (λ row. row.block) (λ e. refl) given;
  }

module _ (w : World) (account : List ℕ) where
  -- ---- Its own list

  abbrev own : FinMap name_cmp Case
  own = requests_of account w

  abbrev own_row : RequestName × Case → Request
  own_row e = request_row e.0 e.1

  pub own_list : OwnList w account (request_rows own)
  own_list = record {
    viewed = refl;
    own = All-map (HasRowOf w account) own_row (entries own)
        (All-entries name_keys.total (λ e. HasRowOf w account (own_row e)) own
        (λ name case is_there.
        let is = own_row_found account w name case is_there in (is.1, is.0)));
    every = λ reference case is_there. (
      request_row (account, reference) case,
      Contains-map own_row (entries own) ((account, reference), case)
          (Contains-entries name_keys own (account, reference) case
          (own_request account reference w ∙ is_there)),
      (refl, refl, is_there),
    );
    ascending = ascending-entries name_cmp own_row (λ row. (row.account, row.reference))
        (λ e. refl) own;
  }

  -- ---- Their times

  abbrev its_times : FinMap name_cmp Times
  its_times = times_by (λ applicant. same_text applicant account) w

  abbrev time_row : RequestName × Times → RequestTimes
  time_row e = times_row e.0 e.1

  abbrev told_of : RequestName → Case → Option Times
  told_of name case = only_if (same_text name.0 account) (times_of w.journal name case)

  times_found : (name : RequestName) (times : Times) → get its_times name ≡ Some times
      → HasTimesOf w account (times_row name times)
  times_found name times found =
      by (get w.requests name) refl (sym (get-select name_keys told_of w.requests name) ∙ found)
    where
      by : (o : Option Case) → get w.requests name ≡ o
          → option_and_then (told_of name) o ≡ Some times → HasTimesOf w account (times_row name times)
      by None is none = absurd (cc)
      by (Some case) is some = mine (same_text name.0 account) refl some
        where
          mine : (b : Bool) → same_text name.0 account ≡ b
              → only_if b (times_of w.journal name case) ≡ Some times
              → HasTimesOf w account (times_row name times)
          mine true t some =
              let same : times_of w.journal name case ≡ times = cc in
              ((bytes_eq-Decides name.0 account).0 t, case, is, ap (times_row name) (sym same))
          mine false t some = absurd (cc)

  pub times_list : TimesList w account (times_rows its_times)
  times_list = record {
    own = All-map (HasTimesOf w account) time_row (entries its_times)
        (All-entries name_keys.total (λ e. HasTimesOf w account (time_row e)) its_times times_found);
    every = λ reference case is_there.
        let name : RequestName = (account, reference) in
        Contains-map time_row (entries its_times) (name, times_of w.journal name case)
        (Contains-entries name_keys its_times name (times_of w.journal name case)
        (get-select name_keys told_of w.requests name ∙ ap (option_and_then (told_of name)) is_there
        ∙ ap (λ b. only_if b (times_of w.journal name case)) (same_text-itself account)));
    ascending = ascending-entries name_cmp time_row (λ row. (row.account, row.reference))
        (λ e. refl) its_times;
  }

  -- ---- Its blocks

  abbrev held : FinMap block_cmp Holder
  held = holdings_of account w

  abbrev held_row : SizedPrefix × Holder → Holding
  held_row e = holding_row e.0 e.1

  pub holding_list : HoldingList w account (holding_rows held)
  holding_list = record {
    viewed = refl;
    own = All-map (HasHoldingOf w account) held_row (entries held)
        (All-entries block_keys.total (λ e. HasHoldingOf w account (held_row e)) held
        (λ block h is_there.
        let is = holding_found account w block h is_there in (is.1, is.0)));
    every = λ block h is mine.
        Contains-map held_row (entries held) (block, h)
        (Contains-entries block_keys held block h (own_holding account w block h is mine));
    ascending = ascending-entries block_cmp held_row (λ row. row.block) (λ e. refl) held;
  }

  -- ---- Its queue

  abbrev queue : FinMap name_cmp Queued
  queue = queue_of account w

  abbrev item : RequestName × Queued → QueueRow
  item e = queue_row e.0 e.1

  -- a queued request is shown as it is
  queued_item : (name : RequestName) (queued : Queued) → IsQueued account w name queued
      → IsItem w account name.0 name.1 (queue_row name queued)
  queued_item name queued is = (
    refl,
    refl,
    is.assigned,
    sym (ap (λ q. q.advice) is.shows),
    is.case,
    is.is_there,
    sym (ap (λ q. q.ask) is.shows),
    sym (ap (λ q. q.word) is.shows),
  )

  pub queue_list : QueueList w account (queue_rows queue)
  queue_list = record {
    viewed = refl;
    assigned =
        All-map (λ (row : QueueRow). IsItem w account row.account row.reference row) item
        (entries queue)
        (All-entries name_keys.total (λ e. IsItem w account e.0.0 e.0.1 (item e)) queue
        (λ name queued is_there.
        queued_item name queued (queued_found account w name queued is_there)));
    every = λ of reference case is_there assigned.
        let name : RequestName = (of, reference) in
        let shown = as_queued (get w.advice (name, account)) case in
        let found = found_queued account w name case is_there assigned in (
          queue_row name shown,
          Contains-map item (entries queue) (name, shown)
              (Contains-entries name_keys queue name shown found),
          queued_item name shown (queued_found account w name shown found),
        );
    ascending = ascending-entries name_cmp item (λ row. (row.account, row.reference))
        (λ e. refl) queue;
  }
