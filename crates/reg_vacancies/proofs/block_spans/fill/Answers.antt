use Rattle.reg_vacancies.proofs.SpanSteps.{apart_filled, cuts_filled, lies_filled}
use Rattle.reg_vacancies.proofs.block_spans.fill.Goals as goal

pub returns-clause-apart : goal.returns-clause-apart
returns-clause-apart c =
    apart_filled c.args.spans.now c.insert.new.self c.args.lo c.args.hi c.requires.apart
    c.requires.up c.requires.absent c.in_ok-insert.ensures.updates

pub returns-clause-ok : goal.returns-clause-ok
returns-clause-ok c =
    lies_filled c.args.spans.now c.insert.new.self c.args.lo c.args.hi c.requires.apart
    c.requires.up c.requires.absent c.in_ok-insert.ensures.updates

pub returns-clause-open : goal.returns-clause-open
returns-clause-open c =
    cuts_filled c.args.spans.now c.insert.new.self c.args.lo c.args.hi c.requires.apart
    c.requires.up c.requires.absent c.in_ok-insert.ensures.updates
