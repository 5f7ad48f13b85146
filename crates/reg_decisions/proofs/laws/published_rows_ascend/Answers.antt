use Rattle.reg_core.proofs.ValuesIn.{values_ascend}
use Rattle.reg_decisions.proofs.RowsAscend.{blocks_ascend}
use Rattle.reg_decisions.proofs.laws.published_rows_ascend.Goals as goal

pub returns-clause-values : goal.returns-clause-values
returns-clause-values c = λ p registry. values_ascend registry p.entries

pub returns-clause-blocks : goal.returns-clause-blocks
returns-clause-blocks c = blocks_ascend
