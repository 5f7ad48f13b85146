use Rattle.std.proofs.Common.{ap, ◌∙◌}
use Rattle.reg_vacancies.specs.Runs.{has}
use Rattle.reg_core.specs.LeastFree.{values_in}
use Rattle.reg_vacancies.specs.Sets.{is_in}
use Rattle.reg_vacancies.specs.Values.{is_taken}
use Rattle.reg_vacancies.proofs.TakenLaws.{members}
use Rattle.reg_vacancies.proofs.values.TakenValues.least.Goals as goal

pub returns-in-Some : goal.returns-in-Some
unfolding is_taken
returns-in-Some c = λ entries are.
    let registry = c.args.registry.now in
    c.least_free_of.ensures.value (values_in registry entries)
    (members entries (is_taken c.args.self.now) are registry (has c.in-Some.taken.now)
    (λ n. ap (λ set. is_in set n) c.in-Some.ensures.value))

pub returns-in-None : goal.returns-in-None
unfolding is_taken
returns-in-None c = λ entries are.
    let registry = c.args.registry.now in
    c.least_free_of-in-None.ensures.value (values_in registry entries)
    (members entries (is_taken c.args.self.now) are registry (has c.new.result)
    (λ n. c.new.ensures n ∙ ap (λ set. is_in set n) c.in-None.ensures.value))
