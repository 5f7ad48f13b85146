use Rattle.reg_vacancies.specs.ValueSpans.{is_within}
use Rattle.reg_vacancies.proofs.SpanLaws.{free_nowhere, free_past, next_after, next_here}
use Rattle.reg_vacancies.proofs.value_spans.next_free.Goals as goal

pub returns-in-Some : goal.returns-in-Some
returns-in-Some c =
    let e = c.in-Some.ensures in
    next_after c.args.spans.now e.ordered c.requires c.args.from
    (c.in-Some.field-0-0, c.in-Some.last) c.checked_add.result e.before c.if-from-last.true
    c.checked_add.ensures

pub returns-in_default : goal.returns-in_default
returns-in_default c =
    let e = c.in-Some.ensures in
    next_here (is_within c.args.spans.now) c.args.from
    (free_past c.args.spans.now e.ordered c.requires c.args.from
    (c.in-Some.field-0-0, c.in-Some.last) e.before c.if-from-last.false)

pub returns-in_default-2 : goal.returns-in_default-2
returns-in_default-2 c =
    next_here (is_within c.args.spans.now) c.args.from
    (free_nowhere c.args.spans.now c.before-2.ensures.ordered c.args.from c.before-2.result
    c.in_default.is c.before-2.ensures.before)
