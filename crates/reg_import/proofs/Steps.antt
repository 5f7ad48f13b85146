-- The commands of an import, each a step that is accepted.
use Rattle.std.proofs.Common.{◌≡◌, ◌∙◌, ℕ, ◌+◌, true, false, List, [], ◌∷◌, ◌++◌, refl, sym, ap, subst, arith}
use Rattle.std.specs.Prelude.{◌&&◌, not, nat_le, Some, None, Ok, is_some, All}
use Rattle.std.specs.FinMap.{get}
use Rattle.std.proofs.lemmas.Bool.Decides.{nat_tests}
use Rattle.std.proofs.lemmas.List.Elements.{All-nil, All-cons, All-append}
use Rattle.reg_early.specs.Moment.{is_in_clock, utc_day}
use Rattle.reg_ranges.specs.Tables.{Table}
use Rattle.reg_maps.specs.Maps.{same_text}
use Rattle.reg_core.specs.Allowance.{allowance_on, ground_of}
use Rattle.reg_core.specs.Answer.{Answer, change_of, reply_of}
use Rattle.reg_core.specs.Award.{Allowance}
use Rattle.reg_core.specs.Entry.{page_entry, with_hold}
use Rattle.reg_core.specs.File.{was_advised}
use Rattle.reg_core.specs.Laws.{is_refused}
use Rattle.reg_core.specs.Queue.{with_advice}
use Rattle.reg_core.specs.Request.{request_row}
use Rattle.reg_core.specs.Rules.{change_to_give, hold_rule}
use Rattle.reg_core.specs.Run.{run, step_of, world_after}
use Rattle.reg_core.specs.Step.{acts_as_clerk, answer_to, carried, desk_by}
use Rattle.reg_core.specs.View.{as_queued, published, queue_of, requests_of}
use Rattle.reg_core.specs.World.{World, pending}
use Rattle.reg_core.specs.Answer.{item}
use Rattle.reg_core.specs.declared.ask.Ask.{Ask}
use Rattle.reg_core.specs.declared.capability.Cap.{Cap}
use Rattle.reg_core.specs.declared.capability.Kind.TheVariants as kind
use Rattle.reg_core.specs.declared.change.Change.{Change}
use Rattle.reg_core.specs.declared.change.Change.TheVariants as change
use Rattle.reg_core.specs.declared.command.Command.{Command}
use Rattle.reg_core.specs.declared.command.Command.TheVariants.{Applicant, Expert, Clerk}
use Rattle.reg_core.specs.declared.command.ApplicantCommand.TheVariants.{Submit}
use Rattle.reg_core.specs.declared.command.ExpertCommand.TheVariants.{Advise}
use Rattle.reg_core.specs.declared.command.ClerkCommand.TheVariants.{AssignExpert, Approve, SetHold, Grant}
use Rattle.reg_core.specs.declared.decide.Decision.TheVariants.{Make}
use Rattle.reg_core.specs.declared.entry.Registration.{Registration}
use Rattle.reg_core.specs.declared.reply.Reply.{Reply}
use Rattle.reg_core.specs.declared.reply.Reply.TheVariants.{Accepted}
use Rattle.reg_core.specs.declared.told.Told.{Told}
use Rattle.reg_core.specs.declared.told.Told.TheVariants as tells
use Rattle.reg_core.proofs.Queues.{found_queued}
use Rattle.reg_core.proofs.Stepping.{own_request}
use Rattle.reg_import.specs.Lines.{Line}
use Rattle.reg_import.specs.Imported.{command_of, event_of, events_of, imported}

-- a capability that is valid for the one second that begins at a moment
abbrev pub applicant_cap : List ℕ → ℕ → Cap
applicant_cap account moment =
    record { account = account; kind = kind.Applicant; until = moment + 1 }

abbrev pub expert_cap : List ℕ → ℕ → Cap
expert_cap account moment = record { account = account; kind = kind.Expert; until = moment + 1 }

not_late : (moment : ℕ) → nat_le (moment + 1) moment ≡ false
not_late moment = grind (arith, nat_tests)

module _ (digest_of : List ℕ → List ℕ) where
  -- the command of a caller is accepted, and makes this change
  pub record Does (w : World) (caller : List ℕ) (moment : ℕ) (command : Command)
      (made : Change) : Type 0 where
    pub told : Told
    pub is : answer_to digest_of w (Some caller) moment command
        ≡ Ok (record { told = told; change = Some made })

  -- so it is with a line
  abbrev pub LineDoes : World → Line → Change → Type 0
  LineDoes w l made = Does w (digest_of l.token) l.moment (command_of l.errand) made

  module _ (w : World) where
    pub granted : (clerk : List ℕ) (moment : ℕ) (token : List ℕ) (cap : Cap)
        → acts_as_clerk (get w.caps clerk) moment ≡ true → get w.caps (digest_of token) ≡ None
        → Does w clerk moment (Clerk (Grant token cap)) (change.Grant (digest_of token) cap)
    granted clerk moment token cap acts fresh =
        record { told = tells.Granted cap; is = rw (acts, fresh) refl }

    pub submitted : (caller : List ℕ) (moment : ℕ) (account reference : List ℕ) (ask : Ask)
        (allowance : Allowance) → is_in_clock moment ≡ true
        → get w.caps caller ≡ Some (applicant_cap account moment)
        → get w.requests (account, reference) ≡ None
        → allowance_on (ground_of (published w) ask) account ask ≡ Ok allowance
        → Does w caller moment (Applicant (Submit reference ask))
        (change.Submit account reference ask)
    submitted caller moment account reference ask allowance clock has unfiled allowed =
        let none : get (requests_of account w) (account, reference) ≡ None =
        own_request account reference w ∙ unfiled in
        record {
          told = tells.Made (request_row (account, reference) (pending ask));
          is = rw (clock, has, not_late moment, none, allowed) refl;
        }

    pub assigned : (clerk : List ℕ) (moment : ℕ) (account reference expert : List ℕ) (ask : Ask)
        → acts_as_clerk (get w.caps clerk) moment ≡ true
        → get w.requests (account, reference) ≡ Some (pending ask)
        → get w.queue ((account, reference), expert) ≡ None → same_text expert account ≡ false
        → Does w clerk moment (Clerk (AssignExpert account reference expert))
        (change.Assign account reference expert)
    assigned clerk moment account reference expert ask acts filed free other =
        record {
          told = desk_by (account, reference) (pending ask)
              (Make (change.Assign account reference expert));
          is = rw (acts, filed, free, other) refl;
        }

    pub advised : (caller : List ℕ) (moment : ℕ) (account reference expert : List ℕ) (ask : Ask)
        → is_in_clock moment ≡ true → get w.caps caller ≡ Some (expert_cap expert moment)
        → get w.requests (account, reference) ≡ Some (pending ask)
        → get w.queue ((account, reference), expert) ≡ Some tt
        → get w.advice ((account, reference), expert) ≡ None
        → Does w caller moment (Expert (Advise account reference imported))
        (change.Advise account reference expert imported)
    advised caller moment account reference expert ask clock has filed there first =
        let queued : get (queue_of expert w) (account, reference)
        ≡ Some (as_queued None (pending ask)) =
        found_queued expert w (account, reference) (pending ask) filed (ap is_some there)
        ∙ ap (λ old. Some (as_queued old (pending ask))) first in
        record {
          told = item (account, reference) (with_advice imported (as_queued None (pending ask)));
          is = rw (clock, has, not_late moment, queued) refl;
        }

    pub approved : (clerk : List ℕ) (moment : ℕ) (account reference : List ℕ) (ask : Ask)
        (allowance : Allowance) → acts_as_clerk (get w.caps clerk) moment ≡ true
        → get w.requests (account, reference) ≡ Some (pending ask)
        → allowance_on (ground_of (published w) ask) account ask ≡ Ok allowance
        → (allowance.needs_advice && not (was_advised w (account, reference))) ≡ false
        → Does w clerk moment (Clerk (Approve account reference))
        (change_to_give (account, reference) (utc_day moment) allowance.award)
    approved clerk moment account reference ask allowance acts filed allowed advised =
        record {
          told = desk_by (account, reference) (pending ask)
              (Make (change_to_give (account, reference) (utc_day moment) allowance.award));
          is = rw (acts, filed, allowed, advised) refl;
        }

    pub held : (clerk : List ℕ) (moment : ℕ) (name : List ℕ) (value : ℕ) (table : Table)
        (a : Registration) → acts_as_clerk (get w.caps clerk) moment ≡ true
        → get w.registries name ≡ Some table → get w.entries (name, value) ≡ Some a
        → hold_rule (name, value) true a.term (utc_day moment)
        ≡ Ok (Make (change.SetHold name value true))
        → Does w clerk moment (Clerk (SetHold name value true)) (change.SetHold name value true)
    held clerk moment name value table a acts defined there may =
        record {
          told = tells.Marked (page_entry (utc_day moment) value (with_hold true a));
          is = rw (acts, defined, there, may) refl;
        }

  -- the world after a line makes a change
  abbrev pub after_line : World → Line → Change → World
  after_line w l made = carried w (Some (digest_of l.token)) l.moment (Some made)

  -- ---- Lines

  -- lines are accepted, each of them, and lead to a world
  pub record Runs (w : World) (lines : List Line) (after : World) : Type 0 where
    pub accepted : All (λ (reply : Reply). is_refused reply ≡ false)
        (run digest_of w (events_of digest_of lines))
    pub ends : world_after digest_of w (events_of digest_of lines) ≡ after

  pub runs_nil : (w : World) → Runs w [] w
  runs_nil w = record { accepted = All-nil (λ (reply : Reply). is_refused reply ≡ false); ends = refl }

  pub runs_cons : (w after : World) (l : Line) (lines : List Line) (made : Change)
      → LineDoes w l made → Runs (after_line w l made) lines after → Runs w (l ∷ lines) after
  runs_cons w after l lines made does more =
      let P : Reply → Type 0 = λ reply. is_refused reply ≡ false in
      let replies : Answer → List Reply = λ a.
      reply_of a ∷ run digest_of (carried w (Some (digest_of l.token)) l.moment (change_of a))
      (events_of digest_of lines) in
      record {
        accepted = subst (λ (a : Answer). All P (replies a)) (sym does.is)
            (All-cons P (Accepted does.told) (run digest_of (after_line w l made) (events_of digest_of lines))
            refl more.accepted);
        ends = subst (λ (a : Answer).
            world_after digest_of (carried w (Some (digest_of l.token)) l.moment (change_of a))
            (events_of digest_of lines) ≡ after)
            (sym does.is) more.ends;
      }

  -- what more lines do is done from the world that the first ones end in
  pub ends_on : (more lines : List Line) (v : World)
      → world_after digest_of v (events_of digest_of (lines ++ more))
      ≡ world_after digest_of (world_after digest_of v (events_of digest_of lines))
      (events_of digest_of more)
  ends_on more [] v = refl
  ends_on more (l ∷ lines) v = ends_on more lines (step_of digest_of v (event_of digest_of l)).world

  pub replies_on : (more lines : List Line) (v : World)
      → run digest_of v (events_of digest_of (lines ++ more))
      ≡ run digest_of v (events_of digest_of lines)
      ++ run digest_of (world_after digest_of v (events_of digest_of lines)) (events_of digest_of more)
  replies_on more [] v = refl
  replies_on more (l ∷ lines) v =
      ap (λ rs. (step_of digest_of v (event_of digest_of l)).reply ∷ rs)
      (replies_on more lines (step_of digest_of v (event_of digest_of l)).world)

  pub runs_append : (w middle after : World) (lines more : List Line) → Runs w lines middle
      → Runs middle more after → Runs w (lines ++ more) after
  runs_append w middle after lines more first then =
      let P : Reply → Type 0 = λ reply. is_refused reply ≡ false in
      let replies : run digest_of w (events_of digest_of (lines ++ more))
      ≡ run digest_of w (events_of digest_of lines) ++ run digest_of middle (events_of digest_of more) =
      replies_on more lines w
      ∙ ap (λ v. run digest_of w (events_of digest_of lines) ++ run digest_of v (events_of digest_of more))
      first.ends in
      record {
        accepted = subst (All P) (sym replies)
            (All-append P (run digest_of w (events_of digest_of lines))
            (run digest_of middle (events_of digest_of more)) first.accepted then.accepted);
        ends = ends_on more lines w
            ∙ ap (λ v. world_after digest_of v (events_of digest_of more)) first.ends ∙ then.ends;
      }
