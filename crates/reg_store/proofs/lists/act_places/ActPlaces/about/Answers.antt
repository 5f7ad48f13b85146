use Rattle.std.proofs.Common.{◌≡◌, List, ap, subst, ◌∙◌}
use Rattle.std.specs.Prelude.{IfOk, filter_map, slice_get}
use Rattle.reg_core.specs.declared.journal.Act.{Act}
use Rattle.reg_store.proofs.ActPlaceLaws.{acts-listed}
use Rattle.reg_store.proofs.lists.act_places.ActPlaces.about.Goals as goal

pub returns-clause-found : goal.returns-clause-found
returns-clause-found c =
    let acts : List Act = c.args.acts.now in
    subst (λ (found : List Act). IfOk c.acts_at.result (λ rows. rows ≡ found))
    (ap (filter_map (slice_get acts)) c.places.ensures
    ∙ acts-listed c.note_all.new.self acts (c.args.account.now, c.args.reference.now)
    (c.in_ok-note_all.ensures.in_step) (c.in_ok-note_all.ensures.all))
    c.acts_at.ensures
