use Rattle.std.proofs.Common.{arith, FitsSigned, w64}
use Rattle.std.proofs.lemmas.Int.{to_z-of_z}
use Rattle.jiff.proofs.SpanFacts.{signed_arith, date_add-days, can_add-days}
use Rattle.reg_early.proofs.CalendarIsJiffs.{first_day}
use Rattle.reg_early.proofs.civil.date_on.Goals as goal

pub unwrap-requires : goal.unwrap-requires
unwrap-requires c =
    let fits : FitsSigned w64 c.from-since_2000.result = omega (arith, signed_arith) in
    let only = simp to_z-of_z at c.days-2.ensures in
    let first = first_day c.date.result c.date.ensures in
    let can = can_add-days c.date.result c.from-since_2000.result c.days-2.result only in
    c.checked_add.ensures.succeeds.1 (can.1 (omega (arith, signed_arith)))

pub returns-clause-number : goal.returns-clause-number
returns-clause-number c =
    let fits : FitsSigned w64 c.from-since_2000.result = omega (arith, signed_arith) in
    let only = simp to_z-of_z at c.days-2.ensures in
    let first = first_day c.date.result c.date.ensures in
    let value = rw c.unwrap.ensures at c.checked_add.ensures.value in
    let moved = date_add-days c.date.result c.from-since_2000.result c.days-2.result only in
    omega (arith, signed_arith, value, moved, first)
