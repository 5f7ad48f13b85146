use Rattle.std.proofs.Common.{subst}
use Rattle.reg_maps.proofs.MapLaws.{number_keys}
use Rattle.reg_maps.proofs.KeyLists.{contains_at}
use Rattle.reg_blocks.specs.Block.{leading_24}
use Rattle.reg_core.specs.Holding.{holder_in}
use Rattle.reg_vacancies.specs.Vacancies.{MayBeOf}
use Rattle.reg_opening.proofs.free.with_block.Goals as goal

pub returns-clause-left : goal.returns-clause-left
returns-clause-left g c = λ w there are.
    c.in_ok-give.ensures.ok w.entries w.pool w.blocks (subst (MayBeOf w) c.in-Some.is are)
    (contains_at number_keys w.pool (leading_24 c.args.holding.now.block) there)
    (holder_in c.args.holding.now)
