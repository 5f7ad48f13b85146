-- Two worlds that show a caller the same view answer it alike, and show it the same view after its
-- step.
use Rattle.std.proofs.Common.{◌≡◌, ℕ, Bool, false, List, refl, sym, ap, subst, ◌∙◌}
use Rattle.std.specs.Prelude.{Option, Some, map, option_map, unwrap_or}
use Rattle.std.specs.FinMap.{get, contains_key}
use Rattle.reg_core.proofs.Common.{act_by, answer, change_of, carried, stamp_in, with_acts, same_text}
use Rattle.reg_core.proofs.Common.{SizedPrefix, WellKept, World}
use Rattle.reg_laws.proofs.Types.{Advice, Ask, Cap, Case, Change, Declined, Holder, Withdrawn}
use Rattle.reg_core.specs.Journal.{marked}
use Rattle.reg_core.specs.Laws.{TwoWorlds, IsNoClerk}
use Rattle.reg_core.specs.View.{OwnTimes, View, ViewByNow, cap_at, own_times, times_by, times_seen, view_by_now, view_of}
use Rattle.reg_core.specs.declared.change.Change.TheVariants.{Submit, Close, Advise, SetPrivate, SetAgent}
use Rattle.reg_core.proofs.Outcomes.Dues.{Due, each_step}
use Rattle.reg_laws.proofs.Agents.{principal_times_unchanged}
use Rattle.reg_laws.proofs.Times.{own_submitted, own_withdrawn, principals_submitted, principals_withdrawn}
use Rattle.reg_laws.proofs.TwoWorldsByNow.{ShowAlike, alike_then, no_clerk_serves, same_answers, same_block, same_caps, same_own, shown_alike}

-- ---- What two worlds tell of times after a change of an account's own

module _ (account : List ℕ) (w v : World) (kept_w : WellKept w) (kept_v : WellKept v)
    (alike : ShowAlike account w v) (times : own_times account w ≡ own_times account v)
    (caller : Option (List ℕ)) (moment : ℕ) where
  own_alike : times_by (λ applicant. same_text applicant account) w
      ≡ times_by (λ applicant. same_text applicant account) v
  own_alike = ap (λ (t : OwnTimes). t.own) times

  principals_alike : times_by (λ applicant. contains_key w.agents (applicant, account)) w
      ≡ times_by (λ applicant. contains_key v.agents (applicant, account)) v
  principals_alike = ap (λ (t : OwnTimes). t.principals) times

  -- a change is told alike in both
  abbrev ToldAlike : Change → Type 0
  ToldAlike change =
      own_times account (carried w caller moment (Some change))
      ≡ own_times account (carried v caller moment (Some change))

  submit_told : (reference : List ℕ) (ask : Ask) → ToldAlike (Submit account reference ask)
  submit_told reference ask =
      let own = own_submitted account reference caller moment ask w v own_alike in
      let theirs =
      principals_submitted account reference caller moment ask w kept_w ∙ principals_alike
      ∙ sym (principals_submitted account reference caller moment ask v kept_v) in
      λ i. record { own = own i; principals = theirs i }

  withdraw_told : (reference : List ℕ) (case : Case)
      → get w.requests (account, reference) ≡ Some case
      → ToldAlike (Close account reference Withdrawn)
  withdraw_told reference case is_there =
      let in_v = sym (same_own account w v kept_w kept_v alike reference) ∙ is_there in
      let own =
      own_withdrawn account reference caller moment w v case is_there in_v own_alike in
      let theirs =
      principals_withdrawn account reference caller moment w kept_w ∙ principals_alike
      ∙ sym (principals_withdrawn account reference caller moment v kept_v) in
      λ i. record { own = own i; principals = theirs i }

  -- an advice is no matter of times
  advise_told : (of reference : List ℕ) (advice : Advice)
      → ToldAlike (Advise of reference account advice)
  advise_told of reference advice = times

  -- nor is a mark, by whomever the block is held
  mark_told : (block : SizedPrefix) (private : Bool) (h : Holder) → get w.blocks block ≡ Some h
      → h.account ≡ account → ToldAlike (SetPrivate block private)
  mark_told block private h is_there mine =
      let in_v = sym (same_block account w v kept_w kept_v alike block h is_there mine) ∙ is_there in
      ap (marked_in w) is_there ∙ times ∙ sym (ap (marked_in v) in_v)
    where
      marked_in : World → Option Holder → OwnTimes
      marked_in x holder =
          own_times account (record x {
            journal = with_acts
                (map (act_by (stamp_in x caller moment)) (marked block private holder)) x.journal;
          })

  link_told : (agent : List ℕ) (reads : Bool) → same_text agent account ≡ false
      → ToldAlike (SetAgent account agent reads)
  link_told agent reads apart =
      let theirs =
      principal_times_unchanged account agent reads apart w ∙ principals_alike
      ∙ sym (principal_times_unchanged account agent reads apart v) in
      λ i. record { own = own_alike i; principals = theirs i }

-- ---- The times after the step

-- what a view shows by now
abbrev now_of : View → ViewByNow
now_of shown = record { published = shown.published; me = shown.me }

abbrev times_with : World → Cap → OwnTimes
times_with w cap = own_times cap.account w

module _ (w v : World) (caller : Option (List ℕ)) (moment : ℕ) (kept_w : WellKept w)
    (kept_v : WellKept v) (not_w : IsNoClerk w caller)
    (same : view_of w caller ≡ view_of v caller) where
  same_now : view_by_now w caller ≡ view_by_now v caller
  same_now = ap now_of same

  same_cap : cap_at w caller ≡ cap_at v caller
  same_cap = same_caps w v caller same_now

  same_times : times_seen w caller ≡ times_seen v caller
  same_times = ap (λ (shown : View). shown.times) same

  told_before : (cap : Cap) → cap_at w caller ≡ Some cap
      → own_times cap.account w ≡ own_times cap.account v
  told_before cap is_there =
      let found_v = sym same_cap ∙ is_there in
      ap (λ o. unwrap_or o (times_with w cap))
      (sym (ap (option_map (times_with w)) is_there) ∙ same_times
      ∙ ap (option_map (times_with v)) found_v)

  abbrev after_w : Change → World
  after_w change = carried w caller moment (Some change)

  abbrev after_v : Change → World
  after_v change = carried v caller moment (Some change)

  -- the worlds tell a caller who is served the same times, and so they do after a change that tells
  -- its account the same
  told_after : (cap : Cap) (account : List ℕ) → cap_at w caller ≡ Some cap → cap.account ≡ account
      → (change : Change) → cap_at (after_w change) caller ≡ cap_at w caller
      → cap_at (after_v change) caller ≡ cap_at v caller
      → (ShowAlike account w v → own_times account w ≡ own_times account v
      → own_times account (after_w change) ≡ own_times account (after_v change))
      → times_seen (after_w change) caller ≡ times_seen (after_v change) caller
  told_after cap account is_there own change in_x in_y after =
      let x = after_w change in
      let y = after_v change in
      let shows = subst (λ a. ShowAlike a w v) own
      (shown_alike w v caller cap same_now is_there) in
      let tells = subst (λ a. own_times a w ≡ own_times a v) own (told_before cap is_there) in
      let its = subst (λ a. own_times a x ≡ own_times a y) (sym own) (after shows tells) in
      ap (option_map (times_with x)) (in_x ∙ is_there) ∙ ap Some its
      ∙ sym (ap (option_map (times_with y)) (in_y ∙ sym same_cap ∙ is_there))

  -- it is of the account's own, or only a clerk makes it
  due_told : (change : Change) → Due w caller moment change
      → times_seen (after_w change) caller ≡ times_seen (after_v change) caller
  due_told (Submit account reference ask) due =
      told_after due.0.serves.cap account due.0.serves.is_there due.0.own
      (Submit account reference ask) refl refl
      (λ alike times.
      submit_told account w v kept_w kept_v alike times caller moment reference ask)
  due_told (Close account reference (Declined reason)) due =
      absurd (no_clerk_serves w caller moment not_w due.1)
  due_told (Close account reference Withdrawn) due =
      told_after due.1.serves.cap account due.1.serves.is_there due.1.own
      (Close account reference Withdrawn) refl refl
      (λ alike times.
      withdraw_told account w v kept_w kept_v alike times caller moment reference due.0.case
      due.0.is_there)
  due_told (Close account reference state) due = absurd due.1
  due_told (Advise account reference expert advice) due =
      told_after due.0.serves.cap expert due.0.serves.is_there due.0.own
      (Advise account reference expert advice) refl refl
      (λ alike times.
      advise_told expert w v kept_w kept_v alike times caller moment account reference advice)
  due_told (SetPrivate block private) due =
      told_after due.serves.cap due.serves.cap.account due.serves.is_there refl
      (SetPrivate block private) refl refl
      (λ alike times.
      mark_told due.serves.cap.account w v kept_w kept_v alike times caller moment block private
      due.holder due.is_there due.own)
  due_told (SetAgent principal agent reads) due =
      told_after due.0.serves.cap principal due.0.serves.is_there due.0.own
      (SetAgent principal agent reads) refl refl
      (λ alike times.
      link_told principal w v kept_w kept_v alike times caller moment agent reads due.1)
  due_told change due = absurd (no_clerk_serves w caller moment not_w due.0)

module _ (digest_of : List ℕ → List ℕ) where
  pub worlds_alike : TwoWorlds digest_of
  worlds_alike w v caller moment command kept_w kept_v not_w same =
      let now = same_now w v caller moment kept_w kept_v not_w same in
      let one = same_answers digest_of w v caller moment command not_w now
      (ap (λ (shown : View). answer shown moment command) same) in
      let by_now = alike_then digest_of w v caller moment command kept_w kept_v not_w now one in
      let times = each_step digest_of w caller moment command
      (λ change.
      times_seen (carried w caller moment change) caller
      ≡ times_seen (carried v caller moment change) caller)
      (same_times w v caller moment kept_w kept_v not_w same)
      (λ change is. due_told w v caller moment kept_w kept_v not_w same change is.due)
      ∙ ap (λ a. times_seen (carried v caller moment (change_of a)) caller) one in
      record {
        replies = by_now.replies;
        views = λ i. record {
          published = (by_now.views i).published;
          me = (by_now.views i).me;
          times = times i;
        };
      }
