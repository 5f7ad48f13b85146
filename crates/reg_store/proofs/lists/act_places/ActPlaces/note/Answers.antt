use Rattle.std.proofs.Common.{◌≤◌, List, length, take, sym, ap, ◌∙◌, arith}
use Rattle.reg_core.specs.declared.journal.Act.{Act}
use Rattle.reg_store.specs.Lists.ActPlaces.{places_in, with_place}
use Rattle.reg_store.specs.Lists.Journal.{journal_of}
use Rattle.reg_store.proofs.ActPlaceLaws.{journal-next, length-journal}
use Rattle.reg_store.proofs.lists.act_places.ActPlaces.note.Goals as goal

pub returns-clause-in_step : goal.returns-clause-in_step
returns-clause-in_step c =
    let acts : List Act = c.args.acts.now in
    let place = c.args.place in
    let act : Act = c.index-acts-place.result in
    let more = c.requires.more in
    let inside : place ≤ length acts = omega (arith, more) in
    record {
      within = omega (arith, more);
      found = λ name.
          c.in_ok-put_place.ensures.ok name
          ∙ ap (with_place name act place) (c.requires.in_step.found name
          ∙ ap (λ n. places_in (journal_of (take n acts)) name) (sym c.requires.next))
          ∙ ap (λ n. with_place name act n (places_in (journal_of (take place acts)) name))
          (sym (length-journal place acts inside))
          ∙ ap (λ journal. places_in journal name)
          (sym (journal-next acts place act more (sym c.index-acts-place.is)));
    }

pub returns-in_err-put_place-clause-in_step : goal.returns-in_err-put_place-clause-in_step
returns-in_err-put_place-clause-in_step c = record {
  within = c.requires.in_step.within;
  found = λ name. c.in_err-put_place.ensures.err name ∙ c.requires.in_step.found name;
}
