use Rattle.std.proofs.Common.{ap, sym, ◌∙◌}
use Rattle.std.specs.Prelude.{is_some}
use Rattle.std.specs.BTreeMap.{is_at}
use Rattle.std.specs.FinMap.{get-empty}
use Rattle.std.specs.Map.{lookup}
use Rattle.reg_maps.specs.Maps.{text_cmp}
use Rattle.reg_core.specs.World.{place_cmp}
use Rattle.reg_vacancies.specs.Sets.{is_in}
use Rattle.reg_vacancies.specs.Values.{is_taken}
use Rattle.reg_vacancies.proofs.values.TakenValues.new.Goals as goal

pub returns : goal.returns
unfolding is_taken
returns c = λ registry value.
    ap (λ sets. is_in (lookup (is_at (text_cmp registry)) sets) value) c.new.ensures.empty
    ∙ sym (ap is_some (get-empty place_cmp (registry, value)))
