use Rattle.std.proofs.Common.{◌≡◌, sym, ap, ◌∙◌}
use Rattle.std.specs.FinMap.{get}
use Rattle.std.specs.Option.{option_copied}
use Rattle.reg_core.specs.Rules.{revoke_rule}
use Rattle.reg_core.proofs.Fitting.{revoke_fits}
use Rattle.reg_registers.proofs.Decided.{can_make, follows}
use Rattle.reg_registers.proofs.Rows.{selected_after}
use Rattle.reg_registers.proofs.capabilities.revoke.Goals as goal

pub conclude-requires : goal.conclude-requires
conclude-requires g c = λ h kept.
    let w = g.K.Keeper.world c.cap.new.self in
    let digest = c.digest_of-digest.result in
    let in_use = c.args.caller.now.digest in
    let existing = option_copied c.as_ref.result in
    let found : get w.caps digest ≡ existing =
    sym (c.as_ref.ensures.value ∙ selected_after c.in_ok-existing.ensures h) in
    can_make w (revoke_rule in_use existing digest) c.in_ok-decision.decision
    (follows _ c.in_ok-decision.decision (sym c.in_ok-decision.ensures))
    (λ change made.
    revoke_fits w in_use digest change kept (ap (λ o. revoke_rule in_use o digest) found ∙ made))
