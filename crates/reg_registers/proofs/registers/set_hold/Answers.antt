use Rattle.std.proofs.Common.{◌≡◌, ℕ, Bool, sym, ap, ◌∙◌}
use Rattle.std.specs.Prelude.{Some}
use Rattle.std.specs.FinMap.{get}
use Rattle.reg_core.specs.Allowance.{◌>>=◌, or_refusal}
use Rattle.reg_core.specs.Answer.{Answer, by_rule}
use Rattle.reg_core.specs.Entry.{page_entry, registration_in, with_hold}
use Rattle.reg_core.specs.Rules.{hold_rule}
use Rattle.reg_core.specs.World.{Place, World}
use Rattle.reg_core.specs.declared.command.ClerkCommand.TheVariants.{SetHold}
use Rattle.reg_core.specs.declared.told.Told.TheVariants.{Marked}
use Rattle.reg_core.specs.declared.entry.Entry.{Entry}
use Rattle.reg_core.specs.declared.entry.Registration.{Registration}
use Rattle.reg_core.specs.declared.refusal.Refusal.TheVariants as no
use Rattle.reg_core.proofs.Fitting.{hold_fits}
use Rattle.reg_keeper.proofs.Premises.{goes_on_then}
use Rattle.reg_registers.specs.Answers.{answer_to_clerk}
use Rattle.reg_registers.specs.Pages.{shown_on}
use Rattle.reg_registers.specs.Rows.{held_row}
use Rattle.reg_registers.proofs.Decided.{Decides, follows, makes_fitting, performs_decided, performs_declined, the_value}
use Rattle.reg_registers.proofs.Rows.{entry_is, selected_after, still_after}
use Rattle.reg_registers.proofs.registers.set_hold.Given.{Over}
use Rattle.reg_registers.proofs.registers.set_hold.Goals.{After-decide_hold}
use Rattle.reg_registers.proofs.registers.set_hold.Goals as goal

-- what is answered about an entry at a place
abbrev marked : Bool → ℕ → Place → Registration → Answer
marked held today place a =
    by_rule (hold_rule place held a.term today)
    (λ decision. Marked (page_entry today place.1 (with_hold held a)))

module _ (g : Over) (c : After-decide_hold g) where
  abbrev w : World
  w = g.K.Keeper.world c.entry.new.self

  abbrev asked : Place
  asked = (c.args.name.now, c.args.value)

  abbrev row : Entry
  row = c.in_ok-row.row

  abbrev place : Place
  place = (row.registry, row.value)

  abbrev about : Place → Registration → Answer
  about = marked c.args.held c.args.caller.now.day

  its_table : g.K.Keeper.Holds c.entry.new.self
      → get w.registries asked.0 ≡ Some c.in_ok-ok_or.field-0
  its_table h =
      sym (sym c.in_ok-ok_or.ensures.ok_part
      ∙ still_after c.in_ok-ranges.ensures c.in_ok-entry.ensures h)

  found : g.K.Keeper.Holds c.entry.new.self
      → (get w.entries asked ≡ Some (registration_in row)) × (asked ≡ place)
  found h =
      entry_is asked (get w.entries asked) row
      (sym c.in_ok-row.ensures.ok_part ∙ selected_after c.in_ok-entry.ensures h)

  decides : Decides g.K.Keeper.world g.K.Keeper.Holds g.K.Keeper.Sound
      c.args.keeper.now c.entry.new.self
      (answer_to_clerk c.args.caller.now (SetHold asked.0 asked.1 c.args.held))
      (hold_rule place c.args.held row.term c.args.caller.now.day)
      (λ decision. Marked (shown_on c.args.caller.now.day (held_row c.args.held row)))
  decides = record {
    answered = λ h.
        ap (λ t. or_refusal no.Registry t
        >>= (λ table. or_refusal no.Entry (get w.entries asked) >>= about asked)) (its_table h)
        ∙ ap (λ o. or_refusal no.Entry o >>= about asked) (found h).0
        ∙ ap (λ (p : Place). about p (registration_in row)) (found h).1;
    fits = λ h kept change made.
        hold_fits w place (registration_in row) c.args.held c.args.caller.now.day change kept
        (ap (get w.entries) (sym (found h).1) ∙ (found h).0) made;
    same = λ h.
        c.in_ok-entry.ensures.same h
        ∙ c.in_ok-ranges.ensures.same (c.in_ok-entry.ensures.premise.before h);
    premise = goes_on_then c.in_ok-ranges.ensures.premise c.in_ok-entry.ensures.premise;
  }

pub returns-in_err-decision : goal.returns-in_err-decision
returns-in_err-decision g c =
    performs_declined c.in_err-decision.field-0.0
    (decides g (goal.at.returns-in_err-decision g c).After-decide_hold)
    (sym c.in_err-decision.ensures) c.from_residual-in_err-decision.ensures.1

pub conclude-requires : goal.conclude-requires
conclude-requires g c =
    makes_fitting c.in_ok-decision.decision
    (decides g (goal.at.conclude-requires g c).After-decide_hold)
    (follows _ c.in_ok-decision.decision (sym c.in_ok-decision.ensures))

pub returns : goal.returns
returns g c =
    let d = (goal.at.returns g c).After-decide_hold in
    let concluded = c.in_ok-conclude.ensures in
    performs_decided c.in_ok-decision.decision (decides g d)
    (follows _ c.in_ok-decision.decision (sym c.in_ok-decision.ensures))
    (ap Marked (the_value (shown_on c.args.caller.now.day (held_row c.args.held (row g d))) concluded.told
    (c.show-shown.ensures ∙ ap (shown_on c.args.caller.now.day) c.marked.ensures)))
    concluded.change
