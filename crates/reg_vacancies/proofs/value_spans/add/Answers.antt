use Rattle.std.proofs.Common.{sym, ◌∙◌}
use Rattle.std.proofs.lemmas.Result.{on_err_weaker, on_ok_weaker}
use Rattle.reg_maps.proofs.Outcomes.{either}
use Rattle.reg_vacancies.proofs.SpanLaws.{within_reaches}
use Rattle.reg_vacancies.proofs.value_spans.add.Goals as goal
use Rattle.reg_vacancies.proofs.Joining.{Between, apart_joined, apart_unchanged, between, within_already, within_joined}

pub returns-then-reaches-clause-ok : goal.returns-then-reaches-clause-ok
returns-then-reaches-clause-ok c =
    let run = c.before-run in
    within_already c.args.spans.now c.args.value
    (sym (within_reaches c.args.spans.now run.ensures.ordered c.requires c.args.value run.result
    run.ensures.before) ∙ sym c.if-reaches.ensures)

joined : (c : goal.After-join)
    → Between c.args.spans.now c.first_with-first.result c.last_with-last.result c.args.value
joined c =
    between c.args.spans.now c.requires c.first_with-first.result c.last_with-last.result
    c.args.value c.before-run.result c.before-run.ensures.before (sym c.if-reaches.ensures)
    c.first_with-first.ensures c.last_with-last.ensures

pub returns-clause-ok : goal.returns-clause-ok
returns-clause-ok c =
    on_ok_weaker c.join.result
    (within_joined c.args.spans.now c.join.new.spans c.before-run.ensures.ordered
    c.join.ensures.ordered c.first_with-first.result c.last_with-last.result c.args.value
    c.requires (joined c))
    c.join.ensures.ok

pub returns-clause-apart : goal.returns-clause-apart
returns-clause-apart c =
    either c.join.result c.join.ensures.ok c.join.ensures.err
    (apart_joined c.args.spans.now c.join.new.spans c.first_with-first.result
    c.last_with-last.result c.args.value c.requires c.last_with-last.type_inv (joined c))
    (λ same. apart_unchanged c.args.spans.now c.join.new.spans same c.requires)

pub returns-clause-absent : goal.returns-clause-absent
returns-clause-absent c =
    let run = c.before-run in
    on_err_weaker c.join.result
    (λ same. sym (within_reaches c.args.spans.now run.ensures.ordered c.requires c.args.value
    run.result run.ensures.before) ∙ sym c.if-reaches.ensures)
    c.join.ensures.err
