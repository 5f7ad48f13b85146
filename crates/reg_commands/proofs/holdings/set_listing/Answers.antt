use Rattle.std.proofs.Common.{◌≡◌, Ok, refl, sym, ap, ◌∙◌}
use Rattle.std.specs.Prelude.{Bool, Some}
use Rattle.std.specs.FinMap.{get}
use Rattle.reg_blocks.specs.Block.{SizedPrefix}
use Rattle.reg_core.specs.Allowance.{◌>>=◌, or_refusal}
use Rattle.reg_core.specs.Answer.{Answer, by_rule}
use Rattle.reg_core.specs.Holding.{holder_in, holding_row, with_mark}
use Rattle.reg_core.specs.Rules.{private_rule}
use Rattle.reg_core.specs.View.{holdings_of}
use Rattle.reg_core.specs.World.{World}
use Rattle.reg_core.specs.declared.command.ApplicantCommand.TheVariants.{SetListing}
use Rattle.reg_core.specs.declared.told.Told.TheVariants.{Held}
use Rattle.reg_core.specs.declared.holding.Holder.{Holder}
use Rattle.reg_core.specs.declared.holding.Holding.{Holding}
use Rattle.reg_core.specs.declared.refusal.Refusal.TheVariants as no
use Rattle.reg_core.proofs.Blocks.{holding_found}
use Rattle.reg_core.proofs.Fitting.{listing_fits}
use Rattle.reg_registers.specs.Answers.{answer_to_account}
use Rattle.reg_registers.specs.Rows.{marked_row}
use Rattle.reg_registers.proofs.Decided.{Decides, follows, makes_fitting, performs_decided, the_value}
use Rattle.reg_registers.proofs.Rows.{holding_is, selected_after}
use Rattle.reg_commands.proofs.holdings.set_listing.Given.{Over}
use Rattle.reg_commands.proofs.holdings.set_listing.Goals.{After-decide_listing-decision}
use Rattle.reg_commands.proofs.holdings.set_listing.Goals as goal

-- what its holder is answered about a block that it holds
abbrev marked : Bool → SizedPrefix → Holder → Answer
marked private block h =
    by_rule (Ok (private_rule block private h.private))
    (λ decision. Held (holding_row block (with_mark private h)))

module _ (g : Over) (c : After-decide_listing-decision g) where
  abbrev w : World
  w = g.K.Keeper.world c.holding.new.self

  abbrev asked : SizedPrefix
  asked = c.args.block.now

  abbrev private : Bool
  private = c.args.private

  abbrev row : Holding
  row = c.in_ok-held.held

  found : g.K.Keeper.Holds c.holding.new.self
      → (get (holdings_of c.args.caller.now.capability.account w) asked ≡ Some (holder_in row))
      × (asked ≡ row.block)
  found h =
      holding_is asked (get (holdings_of c.args.caller.now.capability.account w) asked) row
      (sym c.in_ok-held.ensures.ok_part ∙ selected_after c.in_ok-holding.ensures h)

  decides : Decides g.K.Keeper.world g.K.Keeper.Holds g.K.Keeper.Sound
      c.args.keeper.now c.holding.new.self
      (answer_to_account c.args.caller.now.capability.account (SetListing asked private))
      (Ok (private_rule row.block private row.private))
      (λ decision. Held (marked_row private row))
  decides = record {
    answered = λ h.
        ap (λ o. or_refusal no.Holding o >>= marked private asked) (found h).0
        ∙ ap (λ block. marked private block (holder_in row)) (found h).1;
    fits = λ h kept change made.
        listing_fits w row.block private (holder_in row) change kept
        (holding_found c.args.caller.now.capability.account w row.block (holder_in row)
        (ap (get (holdings_of c.args.caller.now.capability.account w)) (sym (found h).1) ∙ (found h).0)).0
        (the_value (private_rule row.block private row.private) made refl);
    same = c.in_ok-holding.ensures.same;
    premise = c.in_ok-holding.ensures.premise;
  }

pub conclude-requires : goal.conclude-requires
conclude-requires g c =
    makes_fitting c.decide_listing-decision.result
    (decides g (goal.at.conclude-requires g c).After-decide_listing-decision)
    (follows _ c.decide_listing-decision.result (ap Ok (sym c.decide_listing-decision.ensures)))

pub returns : goal.returns
returns g c =
    let d = (goal.at.returns g c).After-decide_listing-decision in
    let concluded = c.in_ok-conclude.ensures in
    performs_decided c.decide_listing-decision.result (decides g d)
    (follows _ c.decide_listing-decision.result (ap Ok (sym c.decide_listing-decision.ensures)))
    (ap Held (the_value (marked_row c.args.private (row g d)) concluded.told c.marked-row.ensures))
    concluded.change
