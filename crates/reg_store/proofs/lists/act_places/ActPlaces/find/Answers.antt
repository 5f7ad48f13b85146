use Rattle.std.proofs.Common.{ap, ◌∙◌}
use Rattle.std.specs.Prelude.{fold}
use Rattle.reg_store.specs.Lists.ActPlaces.{arrived_at, not_come}
use Rattle.reg_store.proofs.ActPlaceLaws.{arrival-found}
use Rattle.reg_store.proofs.lists.act_places.ActPlaces.find.Goals as goal

pub returns-clause-found : goal.returns-clause-found
returns-clause-found c =
    c.last_arrival.ensures
    ∙ ap (fold (arrived_at c.args.acts.now) not_come) c.places.ensures
    ∙ arrival-found c.note_all.new.self c.args.acts.now (c.args.account.now, c.args.reference.now)
    c.in_ok-note_all.ensures.in_step c.in_ok-note_all.ensures.all
