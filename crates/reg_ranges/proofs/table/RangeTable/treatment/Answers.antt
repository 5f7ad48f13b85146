use Rattle.reg_ranges.proofs.Treatments.{treatment_above}
use Rattle.reg_ranges.proofs.table.RangeTable.treatment.Goals as goal

pub returns-clause-above : goal.returns-clause-above
returns-clause-above c =
    rw (c.treatment_in.ensures, c.as_slice.ensures.value, ← c.self.view_is)
    (treatment_above (record { max = c.self.inside.max; ranges = c.self.inside.ranges.items })
    c.self.invariant c.args.value)
