use Rattle.std.proofs.Common.{◌≡◌}
use Rattle.reg_store.specs.Lists.ActPlaces.{AreActPlaces}
use Rattle.reg_store.proofs.lists.act_places.ActPlaces.note_all.Given as goal

abbrev pub invariant-loop-place : goal.invariant-loop-place
invariant-loop-place l = record {
  next : l.self.noted ≡ l.place;
  in_step : AreActPlaces l.self l.acts;
}
