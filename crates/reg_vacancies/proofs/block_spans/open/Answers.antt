use Rattle.std.proofs.lemmas.Result.{on_ok_weaker}
use Rattle.reg_vacancies.proofs.block_spans.open.Goals as goal

pub returns-clause-open : goal.returns-clause-open
returns-clause-open c =
    on_ok_weaker c.cut-2.result
    (λ last. (c.cut-2.ensures.kept c.args.lo c.in_ok-cut.ensures.cut, last))
    c.cut-2.ensures.cut
