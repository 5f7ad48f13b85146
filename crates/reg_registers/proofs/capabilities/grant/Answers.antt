use Rattle.std.proofs.Common.{◌≡◌, true, sym, ap, ◌∙◌}
use Rattle.std.specs.FinMap.{get}
use Rattle.std.specs.Option.{option_copied}
use Rattle.std.proofs.lemmas.Bool.{and_from}
use Rattle.reg_core.specs.Capability.{has_cap_form}
use Rattle.reg_core.specs.Names.{is_digest}
use Rattle.reg_core.specs.Rules.{grant_rule}
use Rattle.reg_core.specs.WellKept.{has_grant_form}
use Rattle.reg_core.proofs.Fitting.{grant_fits}
use Rattle.reg_registers.proofs.Decided.{can_make, follows}
use Rattle.reg_registers.proofs.Rows.{selected_after}
use Rattle.reg_registers.proofs.capabilities.grant.Goals as goal

pub carry_out-requires : goal.carry_out-requires
carry_out-requires g c = λ h kept.
    let w = g.K.Keeper.world c.cap.new.self in
    let digest = c.digest_of-digest.result in
    let cap = c.args.cap.now in
    let existing = option_copied c.as_ref.result in
    let found : get w.caps digest ≡ existing =
    sym (c.as_ref.ensures.value ∙ selected_after c.in_ok-existing.ensures h) in
    let form : has_grant_form digest cap ≡ true =
    and_from (is_digest digest) (has_cap_form cap)
    (ap is_digest c.digest_of-digest.ensures.value ∙ c.digest_of-digest.ensures.form) c.formed.ensures in
    can_make w (grant_rule existing digest cap) c.in_ok-decision.decision
    (follows _ c.in_ok-decision.decision (sym c.in_ok-decision.ensures))
    (λ change made.
    grant_fits w digest cap change kept form (ap (λ o. grant_rule o digest cap) found ∙ made))
