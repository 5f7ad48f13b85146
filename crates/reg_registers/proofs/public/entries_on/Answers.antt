use Rattle.std.proofs.Common.{ap, sym, subst, ◌∙◌}
use Rattle.std.specs.Prelude.{map}
use Rattle.std.specs.List.Sorted.{IsStrictlyIncreasing}
use Rattle.reg_core.specs.View.{entries_of}
use Rattle.reg_registers.specs.Pages.{shown_on}
use Rattle.reg_registers.proofs.Pages.{entries_shown, values_shown}
use Rattle.reg_registers.proofs.public.entries_on.Goals as goal

-- what is shown ascends as what the keeper gave
pub from_vec-requires : goal.from_vec-requires
from_vec-requires g c =
    let same = c.in_ok-shown.ensures ∙ ap (map (shown_on c.args.today)) c.into_vec.ensures in
    subst IsStrictlyIncreasing
    (sym (ap (map (λ e. e.value)) same ∙ values_shown c.args.today _))
    c.in_ok-entries.ensures.ascending

pub returns : goal.returns
returns g c = record {
  value = λ h.
      let entries = (g.K.Keeper.world c.args.keeper.now).entries in
      c.from_vec.ensures ∙ c.in_ok-shown.ensures
      ∙ ap (map (shown_on c.args.today)) (c.into_vec.ensures ∙ c.in_ok-entries.ensures.rows.value h)
      ∙ entries_shown c.args.today (entries_of c.args.name.now entries);
  same = c.in_ok-entries.ensures.rows.same;
  premise = c.in_ok-entries.ensures.rows.premise;
  fault = tt;
}
