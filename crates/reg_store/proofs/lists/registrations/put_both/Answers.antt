use Rattle.std.proofs.Common.{sym, ap, subst, ◌∙◌}
use Rattle.std.specs.FinMap.{remove}
use Rattle.reg_maps.proofs.FiniteMaps.Nested.{remove-inserted}
use Rattle.reg_core.specs.Entry.{registration_in}
use Rattle.reg_core.specs.World.{Place}
use Rattle.reg_core.proofs.KeyOrders.{place_keys}
use Rattle.reg_vacancies.specs.Values.{AreTakenBy}
use Rattle.reg_store.specs.Lists.Entries.{all_entries}
use Rattle.reg_store.proofs.lists.registrations.put_both.Goals as goal

pub returns-in-Ok-clause-in_step : goal.returns-in-Ok-clause-in_step
returns-in-Ok-clause-in_step c =
    subst (AreTakenBy c.take.new.self) (sym c.in_ok-put_entry.ensures.ok)
    (c.in-Ok.ensures.ok (all_entries c.args.entries.now) c.requires
    (registration_in c.args.entry))

-- the entry that was put is taken away again
pub returns-in-Err-clause-err : goal.returns-in-Err-clause-err
returns-in-Err-clause-err c =
    let entry = c.args.entry in
    let old = all_entries c.args.entries.now in
    let place : Place = (entry.registry, entry.value) in
    c.take_row.ensures ∙ ap (λ entries. remove entries place) c.in_ok-put_entry.ensures.ok
    ∙ remove-inserted place_keys old place (registration_in entry)
    (c.in-Err.ensures.absent old c.requires)

pub returns-in-Err-clause-in_step : goal.returns-in-Err-clause-in_step
returns-in-Err-clause-in_step c =
    subst (AreTakenBy c.take.new.self) (sym (returns-in-Err-clause-err c))
    ((c.in-Err.ensures.err (all_entries c.args.entries.now)).1 c.requires)
