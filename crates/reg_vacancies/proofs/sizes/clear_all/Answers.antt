use Rattle.reg_blocks.specs.declared.size.Size.TheVariants.{MaL, MaM, MaS}
use Rattle.reg_vacancies.proofs.SizeSteps.{gone_all, gone_from}
use Rattle.reg_vacancies.proofs.sizes.clear_all.Goals as goal

pub returns-clause-gone : goal.returns-clause-gone
returns-clause-gone c =
    let first = c.first-first in
    let last = c.last-last in
    gone_all c.args.large.now c.args.medium.now c.args.small.now c.clear.new.spans
    c.clear-2.new.spans c.clear-3.new.spans c.args.block.now
    (gone_from MaL c.args.block.now c.args.large.now c.clear.new.spans first.result last.result
    first.ensures.value last.ensures.value c.clear.ensures.gone)
    (gone_from MaM c.args.block.now c.args.medium.now c.clear-2.new.spans first.result last.result
    first.ensures.value last.ensures.value c.clear-2.ensures.gone)
    (gone_from MaS c.args.block.now c.args.small.now c.clear-3.new.spans first.result last.result
    first.ensures.value last.ensures.value c.clear-3.ensures.gone)
