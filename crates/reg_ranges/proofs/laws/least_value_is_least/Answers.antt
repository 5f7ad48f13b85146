use Rattle.reg_ranges.proofs.LeastFree.{least_value_is_least, is_least_value}
use Rattle.reg_ranges.proofs.laws.least_value_is_least.Goals as goal

pub returns : goal.returns
returns c table partition policy taken =
    (least_value_is_least table partition policy taken, is_least_value table partition policy taken)
