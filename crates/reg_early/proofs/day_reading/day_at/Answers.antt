use Rattle.std.proofs.Common.{◌≡◌, ◌∙◌, arith, ap, pos, sym, to_z, w8, w32, FitsSigned, rules}
use Rattle.std.specs.Prelude.{unsigned_abs}
use Rattle.std.proofs.lemmas.Int.{ints, to_z-of_z}
use Rattle.jiff.specs.Words as jiff
use Rattle.reg_early.specs.Calendar.{civil_date, day_number}
use Rattle.reg_early.proofs.Dates.{day_is, not_there, there, too_early}
use Rattle.reg_early.proofs.day_reading.day_at.Goals as goal
use mir.Syntax.{w16}

pub returns-then-year-lt2000 : goal.returns-then-year-lt2000
returns-then-year-lt2000 c =
    sym (too_early c.args.year c.args.month c.args.day c.if-year-lt2000.true)

pub returns-in_err-date : goal.returns-in_err-date
returns-in_err-date c =
    let year : to_z w16 c.args.year ≡ pos c.args.year = omega (arith, ints) in
    let month : to_z w8 c.args.month ≡ pos c.args.month = omega (arith, ints) in
    let day : to_z w8 c.args.day ≡ pos c.args.day = omega (arith, ints) in
    let ok = rw (year, month, day) at c.new.ensures.succeeds in
    let no = λ (j : jiff.IsDate (pos c.args.year) (pos c.args.month) (pos c.args.day)).
    let some = rw c.in_err-date.was at (c.ok.ensures.variant ∙ ok.1 j) in absurd (cc) in
    c.from_residual.ensures ∙ sym (not_there c.args.year c.args.month c.args.day no)

pub returns : goal.returns
returns c =
    let year : to_z w16 c.args.year ≡ pos c.args.year = omega (arith, ints) in
    let month : to_z w8 c.args.month ≡ pos c.args.month = omega (arith, ints) in
    let day : to_z w8 c.args.day ≡ pos c.args.day = omega (arith, ints) in
    let ok = rw (year, month, day) at c.new.ensures.succeeds in
    let parts = rw (year, month, day) at c.new.ensures.value in
    let made = there c.args.year c.args.month c.args.day c.new.result c.in_ok-date.date
    (omega arith) (sym c.ok.ensures.value ∙ c.in_ok-date.was) ok parts in
    let fits : FitsSigned w32 c.to_unix_epoch_day.result = search rules in
    let value = simp to_z-of_z at c.unsigned_abs.ensures.value in
    let number : c.unsigned_abs.result ≡ day_number (civil_date c.args.year c.args.month c.args.day) =
    value
    ∙ ap unsigned_abs (c.to_unix_epoch_day.ensures.value ∙ ap jiff.epoch_day c.to_plain.ensures ∙ made.number) in
    day_is c.from_days.result c.unsigned_abs.result
    (day_number (civil_date c.args.year c.args.month c.args.day)) number made.is_day
    c.from_days.ensures.accepted c.from_days.ensures.value ∙ sym made.day
