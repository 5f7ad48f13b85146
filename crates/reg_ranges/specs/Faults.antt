-- Why ranges are no partition.
use Rattle.std.specs.Prelude.{ℕ, ◌+◌, ◌==◌, nat_lt, List, [], ◌∷◌, length, Option, Some, None, if◌then◌else◌}
use Rattle.reg_ranges.specs.Tables.{most_ranges}
use Rattle.reg_ranges.specs.declared.range.Range.{Range}
use Rattle.reg_ranges.specs.declared.table.RangeFault.{RangeFault}
use Rattle.reg_ranges.specs.declared.table.RangeFault.TheVariants as fault

-- the fault of the range at place i, where next is the first number that none before it has
abbrev pub fault_at : ℕ → ℕ → Range → Option RangeFault
fault_at i next range =
    (if nat_lt range.hi range.lo then Some (fault.Order i)
    else if nat_lt next range.lo then Some (fault.Gap i)
    else if nat_lt range.lo next then Some (fault.Overlap i)
    else None)

-- the first fault, or else that of the rest
abbrev pub or_else : Option RangeFault → Option RangeFault → Option RangeFault
or_else (Some f) rest = Some f
or_else None rest = rest

-- the first fault of the ranges from place i on, or that of their end
abbrev pub fault_from : ℕ → ℕ → ℕ → List Range → Option RangeFault
fault_from i next max [] = (if next == max + 1 then None else Some fault.End)
fault_from i next max (range ∷ rest) =
    or_else (fault_at i next range) (fault_from (i + 1) (range.hi + 1) max rest)

-- why the ranges are no partition of 0 to max: none, more than 64, the first range at fault, the
-- end
abbrev pub first_fault : ℕ → List Range → Option RangeFault
first_fault max [] = Some fault.Empty
first_fault max (range ∷ rest) =
    (if nat_lt most_ranges (length (range ∷ rest)) then Some fault.TooMany else fault_from 0 0 max
    (range ∷ rest))
