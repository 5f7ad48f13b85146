use Rattle.std.proofs.Common.{◌≡◌, Bool, Bor, true, false, not, Result, refl, sym, ap, ◌∙◌}
use Rattle.std.specs.Prelude.{Option, Some, None, is_some, option_map}
use Rattle.std.specs.Option.{option_copied}
use Rattle.reg_core.specs.Allowance.{Ground, allowed, allowed_on}
use Rattle.reg_decisions.specs.Ground.{seen}
use Rattle.reg_core.specs.Request.{case_of}
use Rattle.reg_core.specs.Rules.{submit_rule}
use Rattle.reg_core.specs.View.{published}
use Rattle.reg_core.specs.World.{World, RequestName}
use Rattle.reg_core.specs.declared.refusal.Refusal.{Refusal}
use Rattle.reg_core.specs.declared.request.Given.{Given}
use Rattle.reg_core.specs.declared.request.Request.{Request}
use Rattle.reg_registers.proofs.Decided.{finds_decided, finds_denied}
use Rattle.reg_registers.proofs.Rows.{selected_after}
use Rattle.reg_commands.proofs.Submissions.{allowance_of_new, submission}
use Rattle.reg_commands.proofs.applicant.submission.Given.{Over}
use Rattle.reg_commands.proofs.applicant.submission.Goals.{After-decide_submit}
use Rattle.reg_commands.proofs.applicant.submission.Goals as goal

-- where there is no request, the published rows are looked up
wanted : (b : Bool) → false ≡ not b → b ≡ true
wanted true h = refl
wanted false h = absurd (cc)

-- a row that is copied was there
copied : {T : Type 0} (o : Option (Bor T)) → option_copied o ≡ None → is_some o ≡ false
copied None h = refl
copied (Some r) h = absurd (cc)

module _ (g : Over) (c : After-decide_submit g) where
  abbrev name : RequestName
  name = (c.args.account.now, c.args.reference.now)

  abbrev existing : Option Request
  existing = option_copied c.args.existing

  abbrev allowance : Result Given Refusal
  allowance = allowed_on (seen c.ground.result) c.args.account.now c.args.ask.now

  module _ (h : g.K.Keeper.Holds c.ground_if.new.keeper) where
    abbrev w : World
    w = g.K.Keeper.world c.ground_if.new.keeper

    -- where there is no request, the published rows were looked up
    allowed_there : existing ≡ None
        → allowance ≡ allowed (published w) c.args.account.now c.args.ask.now
    allowed_there none =
        let needed : c.is_none.result ≡ true =
        wanted c.is_none.result (sym (copied c.args.existing none) ∙ c.is_none.ensures) in
        ap (λ (rows : Ground). allowed_on rows c.args.account.now c.args.ask.now)
        (c.ground.ensures ∙ selected_after c.in_ok-rows.ensures h needed)

    decides_there : submit_rule allowance name c.args.ask.now (option_map case_of existing)
        ≡ submission w name c.args.ask.now existing
    decides_there = allowance_of_new allowance _ name c.args.ask.now existing allowed_there

pub returns-in_err-decide_submit : goal.returns-in_err-decide_submit
returns-in_err-decide_submit g c =
    finds_denied c.in_err-decide_submit.field-0.0 c.in_ok-rows.ensures
    (decides_there g (goal.at.returns-in_err-decide_submit g c).After-decide_submit)
    c.in_err-decide_submit.ensures c.from_residual-in_err-decide_submit.ensures.1

pub returns : goal.returns
returns g c =
    finds_decided c.in_ok-decide_submit.field-0 c.in_ok-rows.ensures
    (decides_there g (goal.at.returns g c).After-decide_submit) c.in_ok-decide_submit.ensures
