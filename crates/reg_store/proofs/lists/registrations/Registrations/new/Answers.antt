use Rattle.std.proofs.Common.{ap, sym, subst}
use Rattle.std.specs.FinMap.{from_entries}
use Rattle.reg_maps.specs.Groups.{rows_in}
use Rattle.reg_core.specs.World.{place_cmp}
use Rattle.reg_vacancies.specs.Values.{AreTakenBy}
use Rattle.reg_store.proofs.lists.registrations.Registrations.new.Goals as goal

pub invariant_of-result : goal.invariant_of-result
invariant_of-result c = record {
  in_step =
      subst (AreTakenBy c.new-2.result)
      (sym (ap (λ groups. from_entries {R = place_cmp} (rows_in groups)) c.new.ensures.empty))
      c.new-2.ensures;
}
