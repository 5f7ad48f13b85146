use Rattle.std.proofs.Common.{◌≡◌, List, ℕ, Ok, map, sym, ap, subst, ◌∙◌}
use Rattle.reg_core.specs.Journal.{recorded}
use Rattle.reg_core.specs.World.{World}
use Rattle.reg_core.specs.declared.journal.Stamp.{Stamp}
use Rattle.reg_core.specs.declared.capability.CapRow.{CapRow}
use Rattle.reg_core.specs.declared.change.Change.TheVariants.{RevokeAll}
use Rattle.reg_core.proofs.Keeping.Changes.{can_revoke_all}
use Rattle.reg_office.specs.Revocation.{HasClerkAt, revoked, taken, taken_of}
use Rattle.reg_office.specs.Stamps.{job_stamp}
use Rattle.reg_office.proofs.Revocations.{clerk_stays, may_revoke}
use Rattle.reg_office.proofs.revocation.revoke_chosen.Goals as goal

pub make-requires : goal.make-requires
make-requires g c = λ h kept.
    can_revoke_all (g.K.Keeper.world c.caps.new.self) c.from_vec.result kept

pub returns-in_err-chosen-clause-fault : goal.returns-in_err-chosen-clause-fault
returns-in_err-chosen-clause-fault g c =
    may_revoke g.K.Keeper.FAILS c.in_err-chosen.field-0.0 _
    c.from_residual-in_err-chosen.result c.in_err-chosen.ensures.err
    c.from_residual-in_err-chosen.ensures.1

pub returns-clause-clerk : goal.returns-clause-clerk
returns-clause-clerk g c = λ h.
    let kept = c.in_ok-make.ensures.premise.before h in
    let w = g.K.Keeper.world c.args.keeper.now in
    let rows = c.in_ok-chosen.chosen.items in
    let is : taken c.args.moment c.args.choice w ≡ Ok rows =
    ap (taken_of c.args.moment c.args.choice)
    (sym (c.as_slice.ensures ∙ c.in_ok-rows.ensures.value kept))
    ∙ c.in_ok-chosen.ensures.ok in
    let digests : c.from_vec.result ≡ map (λ (row : CapRow). row.digest) rows =
    c.from_vec.ensures ∙ c.in_ok-digests.ensures
    ∙ ap (map (λ (row : CapRow). row.digest)) c.as_slice-2.ensures.value in
    let new : g.K.Keeper.world c.make.new.keeper ≡ revoked c.args.moment rows w =
    c.in_ok-make.ensures.made h
    ∙ ap (λ (s : Stamp). recorded s (g.K.Keeper.world c.caps.new.self) (RevokeAll c.from_vec.result))
    c.at_moment.ensures
    ∙ ap (λ (w : World). recorded (job_stamp c.args.moment) w (RevokeAll c.from_vec.result))
    (c.in_ok-rows.ensures.same kept)
    ∙ ap (λ (ds : List (List ℕ)). recorded (job_stamp c.args.moment) w (RevokeAll ds)) digests in
    subst (HasClerkAt c.args.moment) (sym new)
    (clerk_stays c.args.moment c.args.choice w rows is)
