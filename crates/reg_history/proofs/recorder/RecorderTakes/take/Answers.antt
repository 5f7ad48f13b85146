use Rattle.std.proofs.Common.{◌≡◌, false, ◌∷◌, refl, sym, ◌∙◌, subst}
use Rattle.std.specs.Prelude.{is_some}
use Rattle.reg_history.specs.Chain.{says}
use Rattle.reg_history.specs.Recording.{Records}
use Rattle.reg_changes.specs.Replay.{IsLost}
use Rattle.reg_changes.specs.Said.{DoesNotStand}
use Rattle.reg_history.specs.declared.recorder.Recorder.{Recorder}
use Rattle.reg_changes.specs.declared.said.Unrecorded.{Unrecorded}
use Rattle.reg_history.proofs.Recordings.{is_not_lost, not_lost, records_lost, records_next}
use Rattle.reg_history.proofs.recorder.RecorderTakes.take.Goals as goal

pub returns-in-Ok : goal.returns-in-Ok
returns-in-Ok c = record {
  goes_on = λ aim rest h.
      let r = c.args.self.now in
      let r' : Recorder =
      record { whole = c.add.new.self; said = c.remove-before.new.self; moment = r.moment; lost = r.lost } in
      let none : is_some r.lost ≡ false = sym c.is_some.ensures ∙ c.if-is_some.false in
      not_lost (Records aim r' rest) (λ s. IsLost (says aim.records) aim.facts s) r.lost none
      (records_next aim r r' c.args.fact rest c.remove-before.result c.in-Ok.change
      (is_not_lost (Records aim r (c.args.fact ∷ rest)) (λ s. IsLost (says aim.records) aim.facts s)
      r.lost none h)
      c.remove-before.ensures.value c.remove-before.ensures.updates.0 c.in-Ok.ensures.stands
      c.in-Ok.ensures.change c.in_ok-add-in-Ok.ensures refl);
}

pub returns : goal.returns
returns c = record {
  goes_on = λ aim rest h.
      let r = c.args.self.now in
      let none : is_some r.lost ≡ false = sym c.is_some.ensures ∙ c.if-is_some.false in
      let So : Unrecorded → Type 0 = λ why. DoesNotStand c.remove-before.result c.args.fact why in
      records_lost aim r c.args.fact rest c.remove-before.result c.in_ok-lost_in-in-Err.field-0
      (is_not_lost (Records aim r (c.args.fact ∷ rest)) (λ s. IsLost (says aim.records) aim.facts s)
      r.lost none h)
      c.remove-before.ensures.value (subst So c.in_ok-lost_in-in-Err.ensures c.in-Err.ensures.lost);
}
