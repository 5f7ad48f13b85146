use Rattle.std.proofs.Common.{refl, sym, ap, ◌∙◌}
use Rattle.std.specs.Prelude.{map}
use Rattle.std.specs.Option.{option_to_list}
use Rattle.std.proofs.lemmas.Simd.{map-map}
use Rattle.reg_core.specs.Journal.{act_by, caps_at, row_went}
use Rattle.reg_keeper.proofs.Premises.{goes_on_there}
use Rattle.reg_registers.specs.Acts.{act_of_row}
use Rattle.reg_registers.proofs.Deeds.{said}
use Rattle.reg_registers.proofs.Selected.{selects_made}
use Rattle.reg_registers.proofs.acts.acts_of.Goals as goal

pub returns-in_ok-revocations-in-RevokeAll : goal.returns-in_ok-revocations-in-RevokeAll
returns-in_ok-revocations-in-RevokeAll g c =
    rw c.in-RevokeAll.is
    (selects_made c.in_ok-revocations-in-RevokeAll.ensures (λ w found.
    found
    ∙ ap (λ ds. map (act_of_row c.args.stamp) (caps_at ds w.caps)) c.as_slice.ensures
    ∙ sym (map-map (act_by c.args.stamp) row_went (caps_at c.in-RevokeAll.digests w.caps))))

pub returns-in_default : goal.returns-in_default
returns-in_default g c =
    let d = c.in_default in
    record {
      value = λ h.
          let w = g.K.Keeper.world c.args.keeper.now in
          c.at_most_one-in_default.ensures
          ∙ ap (map (act_by c.args.stamp))
          (ap option_to_list c.deed_of.ensures
          ∙ said w.caps w.blocks c.args.change.now d.not-Revoke d.not-RevokeAll d.not-SetPrivate);
      same = λ h. refl;
      premise = goes_on_there refl;
      fault = tt;
    }
