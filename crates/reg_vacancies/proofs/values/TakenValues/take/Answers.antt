use Rattle.std.proofs.lemmas.Result.{on_err_weaker, on_ok_weaker}
use Rattle.reg_vacancies.specs.Sets.{is_member}
use Rattle.reg_vacancies.specs.Values.{is_taken}
use Rattle.reg_vacancies.proofs.TakenLaws.{not_taken, tells-alike, tells-put}
use Rattle.reg_vacancies.proofs.values.TakenValues.take.Goals as goal

pub returns-clause-ok : goal.returns-clause-ok
unfolding is_taken
returns-clause-ok c =
    on_ok_weaker c.put_value.result
    (λ gains entries are row.
    tells-put entries (is_member c.args.self.now.sets) (is_member c.put_value.new.sets) are
    c.args.registry.now c.args.value row gains)
    c.put_value.ensures.ok

pub returns-clause-err : goal.returns-clause-err
unfolding is_taken
returns-clause-err c =
    on_err_weaker c.put_value.result
    (λ alike entries.
    tells-alike entries (is_member c.args.self.now.sets) (is_member c.put_value.new.sets) alike)
    c.put_value.ensures.err

pub returns-clause-absent : goal.returns-clause-absent
unfolding is_taken
returns-clause-absent c =
    on_err_weaker c.put_value.result
    (λ free entries are.
    not_taken entries (is_member c.args.self.now.sets) are c.args.registry.now c.args.value free)
    c.put_value.ensures.absent
