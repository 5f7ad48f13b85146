use Rattle.reg_ranges.proofs.Treatments.{treatment_in, treatment_above}
use Rattle.reg_ranges.proofs.laws.treatment_is_of_its_range.Goals as goal

pub returns : goal.returns
returns c table p = (treatment_in table p, treatment_above table p)
