use Rattle.std.proofs.Common.{◌||◌, cond, nat_eq, sym, ap, ◌∙◌, rules}
use Rattle.std.specs.Prelude.{Some, None}
use Rattle.std.specs.BTreeMap as tree
use Rattle.reg_maps.specs.Maps.{text_cmp}
use Rattle.reg_maps.proofs.Outcomes.{any_err}
use Rattle.reg_vacancies.proofs.TakenLaws.{gains, alike}
use Rattle.reg_vacancies.proofs.sets.put_value.Goals as goal

pub returns-in_ok-insert-in-Some-clause-ok : goal.returns-in_ok-insert-in-Some-clause-ok
returns-in_ok-insert-in-Some-clause-ok c =
    let runs = c.insert.new.self in
    gains c.args.sets.now (c.get_mut.follows.lender runs) c.args.registry.now
    (Some c.in-Some.runs.now) runs (sym c.in-Some.ensures.value)
    ((c.get_mut.follows.holds runs).3 (search rules)).0
    c.args.value c.in_ok-insert-in-Some.ensures.ok

pub returns-in_err-insert-in-Some-clause-err : goal.returns-in_err-insert-in-Some-clause-err
returns-in_err-insert-in-Some-clause-err c =
    let runs = c.insert.new.self in
    any_err c.from_residual.result
    (alike c.args.sets.now (c.get_mut.follows.lender runs) c.args.registry.now
    (Some c.in-Some.runs.now) runs (sym c.in-Some.ensures.value)
    ((c.get_mut.follows.holds runs).3 (search rules)).0 c.in_err-insert-in-Some.ensures.err)

pub returns-in_ok-insert-in-None-2-clause-ok : goal.returns-in_ok-insert-in-None-2-clause-ok
returns-in_ok-insert-in-None-2-clause-ok c =
    let runs = c.insert-in-None.new.self in
    gains c.args.sets.now c.insert-in-None-2.new.self c.args.registry.now None runs
    (sym c.in-None.ensures.value)
    (λ name. c.in_ok-insert-in-None-2.ensures.updates.0 name
    ∙ ap (λ m. cond (tree.is_at (text_cmp c.args.registry.now) name) (Some runs)
    (tree.get text_cmp m name)) c.get_mut.follows.holds-at-none)
    c.args.value
    (λ n. c.in_ok-insert-in-None.ensures.ok n
    ∙ ap (λ b. nat_eq n c.args.value || b) (c.new-runs.ensures n))
