use Rattle.reg_print.proofs.Covered.{rows_cover}
use Rattle.reg_print.proofs.laws.rows_cover_ranges.Goals as goal

pub returns : goal.returns
returns c = rows_cover
