-- A run, and the run of what is left of it without the events about unseen requests.
use Rattle.std.proofs.Common.{◌≡◌, ℕ, Bool, true, false, cond, ◌&&◌, not, List, [], ◌∷◌, map, refl, sym, ap, subst, ◌∙◌}
use Rattle.std.specs.Prelude.{Option, filter}
use Rattle.std.specs.List.{list_any, AllZip}
use Rattle.reg_core.proofs.Common.{contains_key, or_parts, not-false, same_text, change_of, reply_of}
use Rattle.reg_core.proofs.Common.{Event, step_of, world_after, ShowSame, AreAlikeTo}
use Rattle.reg_core.proofs.Common.{UnseenLeaveNoTrace, StagesAreOfRun, World, RequestName, carried}
use Rattle.reg_core.proofs.Common.{acts_without, not_some, stamp_in}
use Rattle.reg_core.specs.Striking.{ListsNoneUnseen}
use Rattle.reg_laws.proofs.Types.{Change}
use Rattle.reg_core.specs.Unseen.{Stage, stage, stages, about_at, reveals_if, is_unseen, is_hidden, stays_in}
use Rattle.reg_core.proofs.Outcomes.Dues.{changes_due}
use Rattle.reg_laws.proofs.Striking.Answers.{same_answer, answer_at}
use Rattle.reg_laws.proofs.Striking.Lists.{answer_plain}
use Rattle.reg_laws.proofs.Striking.Untouched.{kept_apart, left_if}
use Rattle.reg_laws.proofs.Striking.Views.{show_same}
use Rattle.reg_laws.proofs.Striking.Worlds.{agree_itself, agree_if, agree_hidden_if, Blind, IsQuiet, IsOfHidden, blind_if, Unaware}
pub mod Worlds
pub mod Views
pub mod Acts
pub mod Arrivals
pub mod Answers
pub mod Untouched
pub mod Lists
mod Worked

-- ---- Stages

pub stages_of_run : (digest_of : List ℕ → List ℕ) → StagesAreOfRun digest_of
stages_of_run digest_of w [] = refl
stages_of_run digest_of w (e ∷ events) =
    let next = step_of digest_of w e in
    ap (λ replies. next.reply ∷ replies) (stages_of_run digest_of next.world events)

-- ---- Both runs

module _ (digest_of : List ℕ → List ℕ) (account : List ℕ) (hidden : RequestName → Bool) where
  abbrev change_at : World → Event → Option Change
  change_at w e = change_of (answer_at digest_of w e)

  abbrev after : World → Event → World
  after w e = (step_of digest_of w e).world

  abbrev kept : World → List Event → List Stage
  kept w events = filter (stays_in account hidden) (stages digest_of w events)

  abbrev events_at : List Stage → List Event
  events_at some = map (λ (s : Stage). s.event) some

  -- the stages that are kept of a run are alike, event by event, to the run of their events from
  -- another world, and so is the end
  record IsFollowed (v : World) (some : List Stage) (last : World) : Type 0 where
    each_event : AllZip (AreAlikeTo account hidden) some
        (stages digest_of v (events_at some))
    end : ShowSame account last (world_after digest_of v (events_at some))
    journals : acts_without hidden last.journal
        ≡ acts_without hidden (world_after digest_of v (events_at some)).journal

  -- no change of a run shows the account a hidden request
  abbrev IsQuietRun : World → List Event → Type 0
  IsQuietRun w events =
      (name : RequestName) → hidden name ≡ true
      → list_any (λ s. reveals_if account name s.change) (stages digest_of w events) ≡ false

  module _
      (w v : World) (un : Unaware account hidden w v)
      (e : Event) (quiet : IsQuiet account hidden (change_at w e)) where
    -- after an event that stays both worlds have made the same change
    after_both : change_at w e ≡ change_at v e → Unaware account hidden (after w e) (after v e)
    after_both same =
        let made = change_at w e in
        let in_w = stamp_in w e.caller e.moment in
        let in_v = stamp_in v e.caller e.moment in
        let one : in_w ≡ in_v =
        ap (λ (x : World). stamp_in x e.caller e.moment) un.agree.rest in
        subst (λ change. Unaware account hidden (after w e) (carried v e.caller e.moment change)) same
        (record {
          agree = agree_if hidden w v un.agree in_w in_v one made;
          not_own = un.not_own;
          blind_w = blind_if account hidden w un.blind_w in_w made quiet;
          blind_v = blind_if account hidden v un.blind_v in_v made quiet;
        })

    -- after an event that is struck the first world has changed in a hidden request alone
    after_struck : stays_in account hidden (stage digest_of w e) ≡ false
        → Unaware account hidden (after w e) v
    after_struck struck =
        let made = change_at w e in
        let by = stamp_in w e.caller e.moment in
        let its = about_at (stage digest_of w e) in
        let hides = not-false _ (or_parts (not (is_hidden hidden its)) _ struck).0 in
        let due = changes_due digest_of w e.caller e.moment e.command in
        let of_hidden : IsOfHidden true hidden made = λ change is.
        ap (is_hidden hidden) (due change is).about ∙ hides in
        record {
          agree = agree_hidden_if hidden w v un.agree account by made of_hidden quiet;
          not_own = un.not_own;
          blind_w = blind_if account hidden w un.blind_w by made quiet;
          blind_v = un.blind_v;
        }

    -- an event that stays is alike in both runs
    alike : stays_in account hidden (stage digest_of w e) ≡ true
        → AreAlikeTo account hidden (stage digest_of w e) (stage digest_of v e)
    alike stays =
        let answers = same_answer digest_of account hidden e w v un stays in
        let plain = λ (none : ListsNoneUnseen hidden v (reply_of (answer_at digest_of v e))).
        answer_plain hidden v none.0 digest_of e (answer_at digest_of v e) refl none.1 in
        let apart = kept_apart digest_of account hidden e w v un stays in
        let open_made = subst (IsOfHidden false hidden) answers.change apart in
        record {
          event = refl;
          before = show_same account hidden w v un;
          after = show_same account hidden (after w e) (after v e) (after_both answers.change);
          replies = λ lists. ap reply_of (answers.whole lists);
          rows = answers.rows;
          untouched = left_if hidden v (stamp_in v e.caller e.moment) (change_at v e) open_made;
          without = λ none. sym (plain none) ∙ sym answers.rows;
          journals = (after_both answers.change).agree.acts;
        }

  followed : (events : List Event) (w v : World) → Unaware account hidden w v → IsQuietRun w events
      → IsFollowed v (kept w events) (world_after digest_of w events)
  followed [] w v un quiet = record {
    each_event = tt;
    end = show_same account hidden w v un;
    journals = un.agree.acts;
  }
  followed (e ∷ events) w v un quiet =
      let s = stage digest_of w e in
      let left = kept (after w e) events in
      let last = world_after digest_of w (e ∷ events) in
      let parts = λ (name : RequestName) (h : hidden name ≡ true).
      or_parts (reveals_if account name s.change) _ (quiet name h) in
      let now : IsQuiet account hidden s.change = λ name h. (parts name h).0 in
      let later : IsQuietRun (after w e) events = λ name h. (parts name h).1 in
      let stay = stays_in account hidden s in
      elim stay as (λ b. stay ≡ b → IsFollowed v (cond b (s ∷ left) left) last) [
        | true ↦ λ stays.
            let same = (same_answer digest_of account hidden e w v un stays).change in
            let next = after_both w v un e now same in
            let rest = followed events (after w e) (after v e) next later in
            record {
              each_event = (alike w v un e now stays, rest.each_event);
              end = rest.end;
              journals = rest.journals;
            }
        | false ↦ λ struck.
            let rest = followed events (after w e) v (after_struck w v un e now struck) later in
            record { each_event = rest.each_event; end = rest.end; journals = rest.journals }
      ] refl

-- ---- The law

four_false : (a b c d : Bool) → (not a && not b && not c && not d) ≡ true
    → (a ≡ false) × (b ≡ false) × (c ≡ false) × (d ≡ false)
four_false false false false false h = (refl, refl, refl, refl)
four_false a b c d h = absurd (cc)

pub unseen_leave_no_trace : (digest_of : List ℕ → List ℕ) → UnseenLeaveNoTrace digest_of
unseen_leave_no_trace digest_of account w events =
    let unseen = is_unseen digest_of account w events in
    let shown = λ (name : RequestName).
    list_any (λ s. reveals_if account name s.change) (stages digest_of w events) in
    let none = λ (name : RequestName) (h : unseen name ≡ true).
    four_false (same_text name.0 account) (contains_key w.queue (name, account))
    (contains_key w.agents (name.0, account)) (shown name) h in
    let blind : Blind account unseen w =
    record {
      no_seat = λ name h. not_some _ (none name h).1;
      no_link = λ name h. (none name h).2;
    } in
    let un : Unaware account unseen w w = record {
      agree = agree_itself unseen w;
      not_own = λ name h. (none name h).0;
      blind_w = blind;
      blind_v = blind;
    } in
    let runs = followed digest_of account unseen events w w un (λ name h. (none name h).3) in
    record { each_event = runs.each_event; end = runs.end; journals = runs.journals }
