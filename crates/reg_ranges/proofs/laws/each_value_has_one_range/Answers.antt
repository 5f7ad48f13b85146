use Rattle.reg_ranges.proofs.Treatments.{one_range}
use Rattle.reg_ranges.proofs.laws.each_value_has_one_range.Goals as goal

pub returns : goal.returns
returns c = one_range
