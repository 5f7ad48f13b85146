-- Assignments and advice, worked out in a world that has a pending request. A token stands for its
-- own digest here.
use Rattle.std.proofs.Common.{◌≡◌, ℕ, true, false, List, [], ◌∷◌, refl, sym, ap, ◌∙◌}
use Rattle.std.specs.Prelude.{Option, Some, None, Ok, Err, codes, is_some, option_and_then}
use Rattle.reg_core.proofs.Common.{get, only_if, is_advised, Ground, allowance_on, needs_advice}
use Rattle.reg_core.proofs.Common.{Allowance, approve_rule, Stepped, step, as_queued, queue_of}
use Rattle.reg_core.proofs.Common.{queued_to, World, RequestName, recorded, pending}
use Rattle.reg_laws.proofs.Types.{Advice, Ask, Cap}
use Rattle.reg_core.proofs.Common.{clerk_cap, get-queue_of}
use Rattle.reg_laws.proofs.Types.{Command, Told, Pending, Declined}
use Rattle.reg_core.proofs.Common.{found_queued}
use Rattle.reg_core.specs.declared.advice.Verdict.TheVariants.{For, Against}
use Rattle.reg_core.specs.declared.capability.Kind.TheVariants.{Expert as ForExpert}
use Rattle.reg_core.specs.declared.change.Change.TheVariants as change
use Rattle.reg_core.specs.declared.command.Command.TheVariants.{Expert, Clerk}
use Rattle.reg_core.specs.declared.command.ClerkCommand.TheVariants.{AssignExpert}
use Rattle.reg_core.specs.declared.command.ExpertCommand.TheVariants.{Advise}
use Rattle.reg_core.specs.declared.refusal.Refusal.TheVariants as no
use Rattle.reg_core.specs.declared.told.Told.TheVariants.{Item, Desk}
use Rattle.reg_laws.proofs.Worked.FirstLines.{by, stays, tells}
use Rattle.reg_core.proofs.Allowances.{allowance_needs}
use Rattle.reg_core.specs.declared.request.StateWord.{StateWord}
use Rattle.reg_core.specs.declared.request.StateWord.TheVariants as word

abbrev alice : List ℕ
alice = codes "alice"

abbrev reference : List ℕ
reference = codes "a-3"

abbrev name : RequestName
name = (alice, reference)

abbrev xan : List ℕ
xan = codes "xan"

abbrev yve : List ℕ
yve = codes "yve"

abbrev fine : Advice
fine = record { verdict = For; text = codes "fine" }

abbrev bad : Advice
bad = record { verdict = Against; text = codes "no" }

abbrev xan_cap : Cap
xan_cap = record { account = xan; kind = ForExpert; until = 1800000000 }

abbrev given : Command → World → Option (List ℕ) → Stepped
given command w caller = step (λ token. token) w caller 1700000000 command

abbrev on_desk : Ask → Told
on_desk ask =
    Desk (record { account = alice; reference = reference; ask = ask; state = Pending })

abbrev with_fine : Ask → StateWord → Told
with_fine ask word =
    Item (record {
      account = alice;
      reference = reference;
      ask = ask;
      word = word;
      advice = Some fine;
    })

-- ---- What counts

one_is_for : is_advised (xan ∷ yve ∷ [])
    (record { expert = xan; advice = fine } ∷ record { expert = yve; advice = bad } ∷ []) ≡ true
one_is_for = refl

none_is_for : is_advised (xan ∷ yve ∷ []) (record { expert = yve; advice = bad } ∷ []) ≡ false
none_is_for = refl

not_an_expert_of_it : is_advised (yve ∷ []) (record { expert = xan; advice = fine } ∷ []) ≡ false
not_an_expert_of_it = refl

-- an approval that needs advice waits for it, and no other does
waits : (rows : Ground) (ask : Ask) (today : ℕ) (allowance : Allowance)
    → needs_advice rows ask ≡ true → allowance_on rows alice ask ≡ Ok allowance
    → approve_rule rows false name ask today Pending ≡ Err no.Advice
waits rows ask today allowance needed is = let needs =
    sym (allowance_needs rows alice ask allowance is) ∙ needed in rw (is, needs) refl

-- ---- The steps

module _ (w : World) (clerk expert : List ℕ) (ask : Ask)
    (has_clerk : get w.caps clerk ≡ Some clerk_cap) (has_expert : get w.caps expert ≡ Some xan_cap)
    (filed : get w.requests name ≡ Some (pending ask)) where
  own_request : get w.queue (name, alice) ≡ None
      → given (Clerk (AssignExpert alice reference alice)) w (Some clerk) ≡ stays w no.Own
  own_request free = rw (has_clerk, filed, free) refl

  assigned_now : get w.queue (name, xan) ≡ None
      → given (Clerk (AssignExpert alice reference xan)) w (Some clerk)
      ≡ tells (recorded (by clerk clerk_cap) w (change.Assign alice reference xan)) (on_desk ask)
  assigned_now free = rw (has_clerk, filed, free) refl

  assigned_before : get w.queue (name, xan) ≡ Some tt
      → given (Clerk (AssignExpert alice reference xan)) w (Some clerk)
      ≡ tells w (on_desk ask)
  assigned_before there = rw (has_clerk, filed, there) refl

  -- a request that is not assigned to the expert is as one that is not there
  not_queued : get w.queue (name, xan) ≡ None
      → given (Expert (Advise alice reference fine)) w (Some expert) ≡ stays w no.Request
  not_queued free =
      let none : get (queue_of xan w) name ≡ None =
      get-queue_of xan w name ∙ ap (option_and_then (queued_to xan w name)) filed
      ∙ ap (λ o. only_if (is_some o) (as_queued (get w.advice (name, xan)) (pending ask))) free in
      rw (has_expert, none) refl

  unknown : get w.requests (alice, codes "a-7") ≡ None
      → given (Expert (Advise alice (codes "a-7") fine)) w (Some expert) ≡ stays w no.Request
  unknown gone =
      let none : get (queue_of xan w) (alice, codes "a-7") ≡ None =
      get-queue_of xan w (alice, codes "a-7")
      ∙ ap (option_and_then (queued_to xan w (alice, codes "a-7"))) gone in
      rw (has_expert, none) refl

  advised_now : get w.queue (name, xan) ≡ Some tt → get w.advice (name, xan) ≡ None
      → given (Expert (Advise alice reference fine)) w (Some expert)
      ≡ tells (recorded (by expert xan_cap) w (change.Advise alice reference xan fine))
      (with_fine ask word.Pending)
  advised_now there first =
      let queued : get (queue_of xan w) name ≡ Some (as_queued None (pending ask)) =
      found_queued xan w name (pending ask) filed (ap is_some there)
      ∙ ap (λ old. Some (as_queued old (pending ask))) first in
      rw (has_expert, queued) refl

-- after the decision the same advice is answered again, and no other is taken
module _ (w : World) (expert : List ℕ) (ask : Ask) (has_expert : get w.caps expert ≡ Some xan_cap)
    (filed : get w.requests name ≡ Some (record { ask = ask; state = Declined (codes "late") }))
    (there : get w.queue (name, xan) ≡ Some tt) (said : get w.advice (name, xan) ≡ Some fine) where
  queued : get (queue_of xan w) name
      ≡ Some (record { ask = ask; word = word.Declined; advice = Some fine })
  queued = found_queued xan w name (record { ask = ask; state = Declined (codes "late") }) filed
      (ap is_some there)
      ∙ ap (λ old.
      Some (as_queued old (record { ask = ask; state = Declined (codes "late") }))) said

  same_advice_again : given (Expert (Advise alice reference fine)) w (Some expert)
      ≡ tells w (with_fine ask word.Declined)
  same_advice_again = rw (has_expert, queued) refl

  other_advice : given (Expert (Advise alice reference bad)) w (Some expert) ≡ stays w no.Closed
  other_advice = rw (has_expert, queued) refl
