use Rattle.reg_vacancies.proofs.SpanLaws.{before_found}
use Rattle.reg_vacancies.proofs.value_spans.before.Goals as goal

pub returns-clause-before : goal.returns-clause-before
returns-clause-before c =
    before_found c.args.spans.now c.args.value c.range.result (c.range.ensures.in_range tt)
    c.in_ok-first.first.now c.in_ok-first.last.now c.next_back.new.self c.in_ok-first.ensures.steps
