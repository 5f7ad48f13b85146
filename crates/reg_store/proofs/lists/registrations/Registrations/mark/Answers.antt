use Rattle.std.proofs.Common.{sym, subst, ◌∙◌}
use Rattle.reg_maps.proofs.KeySets.{contains-changed}
use Rattle.reg_core.specs.Entry.{with_hold}
use Rattle.reg_core.specs.World.{Place}
use Rattle.reg_core.proofs.KeyOrders.{place_keys}
use Rattle.reg_vacancies.specs.Values.{AreTakenBy}
use Rattle.reg_store.specs.Lists.Entries.{all_entries}
use Rattle.reg_store.proofs.lists.registrations.Registrations.mark.Goals as goal

pub invariant_of-self : goal.invariant_of-self
invariant_of-self c =
    let self = c.args.self.now in
    let entries = all_entries self.entries in
    let place : Place = (c.args.registry.now, c.args.value) in
    let marked = with_hold c.args.held in
    record {
      in_step = subst (AreTakenBy self.taken) (sym c.set_hold.ensures)
          (λ registry value. self.in_step registry value
          ∙ sym (contains-changed place_keys entries place marked (registry, value)));
    }
