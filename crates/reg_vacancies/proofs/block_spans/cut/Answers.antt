use Rattle.std.proofs.lemmas.Result.{on_ok_weaker}
use Rattle.reg_maps.proofs.Outcomes.{either}
use Rattle.reg_vacancies.proofs.block_spans.cut.Goals as goal
use Rattle.reg_vacancies.proofs.SpanSteps.{apart_split, apart_unchanged, cut_kept, cut_split, cut_unchanged, lies_split, same_unchanged}

pub returns-in-Some-clause-same : goal.returns-in-Some-clause-same
returns-in-Some-clause-same c = λ n.
    either c.split.result c.split.ensures.ok c.split.ensures.err
    (λ s. lies_split c.args.spans.now c.split.new.spans c.in-Some.first c.in-Some.last c.args.at
    c.requires c.in-Some.ensures.0 c.in-Some.ensures.1 c.if-at-last.true s n)
    (λ same. same_unchanged c.args.spans.now c.split.new.spans same n)

pub returns-in-Some-clause-apart : goal.returns-in-Some-clause-apart
returns-in-Some-clause-apart c =
    either c.split.result c.split.ensures.ok c.split.ensures.err
    (apart_split c.args.spans.now c.split.new.spans c.in-Some.first c.in-Some.last c.args.at
    c.requires c.in-Some.ensures.0 c.in-Some.ensures.1 c.if-at-last.true)
    (λ same. apart_unchanged c.args.spans.now c.split.new.spans same c.requires)

pub returns-in-Some-clause-kept : goal.returns-in-Some-clause-kept
returns-in-Some-clause-kept c = λ n.
    either c.split.result c.split.ensures.ok c.split.ensures.err
    (λ s. cut_kept c.args.spans.now c.split.new.spans c.in-Some.first c.in-Some.last c.args.at
    c.requires c.in-Some.ensures.0 c.in-Some.ensures.1 c.if-at-last.true s n)
    (λ same. cut_unchanged c.args.spans.now c.split.new.spans same n)

pub returns-in-Some-clause-cut : goal.returns-in-Some-clause-cut
returns-in-Some-clause-cut c =
    on_ok_weaker c.split.result
    (cut_split c.args.spans.now c.split.new.spans c.in-Some.first c.in-Some.last c.args.at
    c.requires c.in-Some.ensures.0 c.in-Some.ensures.1 c.if-at-last.true)
    c.split.ensures.ok
