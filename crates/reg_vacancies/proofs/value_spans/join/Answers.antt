use Rattle.std.proofs.Common.{arith}
use Rattle.reg_vacancies.proofs.Joining.{joins_top}
use Rattle.reg_vacancies.proofs.value_spans.join.Goals as goal

pub returns-in_default-clause-ok : goal.returns-in_default-clause-ok
returns-in_default-clause-ok c =
    joins_top c.args.spans.now c.insert.new.self c.args.first c.args.last c.args.value
    c.requires.apart c.requires.first (omega arith) c.in_ok-insert.ensures.updates
