use Rattle.std.proofs.Common.{refl, sym, ap, ◌∙◌}
use Rattle.std.specs.FinMap.{insert}
use Rattle.reg_core.specs.Entry.{registration_in, with_hold}
use Rattle.reg_core.specs.World.{Place}
use Rattle.reg_rows.proofs.Joining.{steps_as}
use Rattle.reg_rows.proofs.MarksWritten.{can_mark, is_unheld, put_bare, put_held}
use Rattle.reg_rows.proofs.RegistryRowsSteps.{steps_last, steps_then}
use Rattle.reg_rows.proofs.entries.put_entry.Goals as goal

pub returns-then-entry-clause-steps : goal.returns-then-entry-clause-steps
returns-then-entry-clause-steps g c =
    let entry = c.args.entry.now in
    let place : Place = (entry.registry, entry.value) in
    let a = registration_in entry in
    let held = c.if-entry.true in
    steps_last (steps_then (steps_as c.in_ok-take_hold.ensures.steps (λ w fits. (tt, refl))) tt
    c.in_ok-put_unheld.ensures.steps (λ w fits. (
      is_unheld w place a,
      ap (λ m. record w { entries = m }) (put_bare w place a),
    ))) c.add_hold.result c.add_hold.ensures.steps (λ w fits. (
      can_mark w place a (fits held),
      ap (λ m. record w { entries = m }) (put_held w place a held),
    ))

pub returns-clause-steps : goal.returns-clause-steps
returns-clause-steps g c =
    let entry = c.args.entry.now in
    let place : Place = (entry.registry, entry.value) in
    let a = registration_in entry in
    steps_then (steps_as c.in_ok-take_hold.ensures.steps (λ w fits. (tt, refl))) tt
    c.in_ok-put_unheld.ensures.steps (λ w fits. (
      is_unheld w place a,
      ap (λ m. record w { entries = m }) (put_bare w place a)
          ∙ ap (λ held. record w { entries = insert w.entries place (with_hold held a) })
          (sym c.if-entry.false),
    ))
