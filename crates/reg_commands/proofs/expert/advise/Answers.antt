use Rattle.std.proofs.Common.{◌≡◌, ℕ, List, sym, ap, ◌∙◌}
use Rattle.std.specs.Prelude.{Some}
use Rattle.std.specs.FinMap.{get}
use Rattle.reg_core.specs.Allowance.{◌>>=◌, or_refusal}
use Rattle.reg_core.specs.Answer.{Answer, by_rule, item}
use Rattle.reg_core.specs.Queue.{with_advice}
use Rattle.reg_core.specs.Rules.{advise_rule}
use Rattle.reg_core.specs.View.{Queued, queue_of}
use Rattle.reg_core.specs.World.{World, RequestName}
use Rattle.reg_core.specs.declared.advice.Advice.{Advice as AdviceOf}
use Rattle.reg_core.specs.declared.command.ExpertCommand.TheVariants.{Advise}
use Rattle.reg_core.specs.declared.told.Told.TheVariants as tells
use Rattle.reg_core.specs.declared.queue.QueueRow.{QueueRow}
use Rattle.reg_core.specs.declared.refusal.Refusal.TheVariants as no
use Rattle.reg_core.proofs.Fitting.{advise_fits}
use Rattle.reg_core.proofs.Queues.{queued_found}
use Rattle.reg_registers.specs.Answers.{answer_to_expert}
use Rattle.reg_registers.specs.Rows.{advised_row}
use Rattle.reg_registers.proofs.Decided.{Decides, always, the_value, makes_fitting, performs_denied, performs_decided}
use Rattle.reg_registers.proofs.Rows.{queued_in, queued_is, selected_after}
use Rattle.reg_commands.proofs.expert.advise.Given.{Over}
use Rattle.reg_commands.proofs.expert.advise.Goals.{After-decide_advise}
use Rattle.reg_commands.proofs.expert.advise.Goals as goal

-- what an expert is answered about a queued request
abbrev advised : List ℕ → AdviceOf → RequestName → Queued → Answer
advised expert advice name queued =
    by_rule (advise_rule name expert advice queued.advice queued.word)
    (λ decision. item name (with_advice advice queued))

module _ (g : Over) (c : After-decide_advise g) where
  abbrev w : World
  w = g.K.Keeper.world c.queue_one.new.self

  abbrev asked : RequestName
  asked = (c.args.account.now, c.args.reference.now)

  abbrev row : QueueRow
  row = c.in_ok-row.row

  abbrev name : RequestName
  name = (row.account, row.reference)

  abbrev expert : List ℕ
  expert = c.args.caller.now.capability.account

  found : g.K.Keeper.Holds c.queue_one.new.self
      → (get (queue_of expert w) asked ≡ Some (queued_in row)) × (asked ≡ name)
  found h =
      queued_is asked (get (queue_of expert w) asked) row
      (sym c.in_ok-row.ensures.ok_part ∙ selected_after c.in_ok-queue_one.ensures h)

  decides : Decides g.K.Keeper.world g.K.Keeper.Holds g.K.Keeper.Sound
      c.args.keeper.now c.queue_one.new.self
      (answer_to_expert expert
      (Advise c.args.account.now c.args.reference.now c.args.advice.now))
      (advise_rule name expert c.args.advice.now row.advice row.word)
      (λ decision. tells.Item (advised_row c.args.advice.now row))
  decides = record {
    answered = λ h.
        ap (λ o. or_refusal no.Request o >>= advised expert c.args.advice.now asked) (found h).0
        ∙ ap (λ n. advised expert c.args.advice.now n (queued_in row)) (found h).1;
    fits = λ h kept change made.
        advise_fits w name expert c.args.advice.now (queued_in row) change kept
        (queued_found expert w name (queued_in row)
        (ap (get (queue_of expert w)) (sym (found h).1) ∙ (found h).0))
        c.formed.ensures made;
    same = c.in_ok-queue_one.ensures.same;
    premise = c.in_ok-queue_one.ensures.premise;
  }

pub returns-in_err-decision : goal.returns-in_err-decision
returns-in_err-decision g c =
    performs_denied c.in_err-decision.field-0.0
    (decides g (goal.at.returns-in_err-decision g c).After-decide_advise)
    c.in_err-decision.ensures c.from_residual-in_err-decision.ensures.1

pub conclude-requires : goal.conclude-requires
conclude-requires g c =
    always c.with_advice-advised.result
    (makes_fitting c.in_ok-decision.decision
    (decides g (goal.at.conclude-requires g c).After-decide_advise) c.in_ok-decision.ensures)

pub returns : goal.returns
returns g c =
    let d = (goal.at.returns g c).After-decide_advise in
    let concluded = c.in_ok-conclude.ensures in
    performs_decided c.in_ok-decision.decision (decides g d) c.in_ok-decision.ensures
    (ap tells.Item (the_value (advised_row c.args.advice.now (row g d)) concluded.told
    c.with_advice-advised.ensures.advised))
    concluded.change
