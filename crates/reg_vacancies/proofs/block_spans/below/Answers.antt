use Rattle.reg_vacancies.proofs.SpanSteps.{below_found}
use Rattle.reg_vacancies.proofs.block_spans.below.Goals as goal

pub returns : goal.returns
returns c =
    below_found c.args.spans.now c.args.at c.range.result (c.range.ensures.in_range tt)
    c.in_ok-first.first.now c.in_ok-first.last.now c.next_back.new.self c.in_ok-first.ensures.steps
