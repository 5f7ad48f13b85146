use Rattle.std.proofs.Common.{◌≡◌, true, sym, arith, rules, length}
use Rattle.csv.specs.Records.{fields_of}
use Rattle.reg_import.specs.Columns.{stands_at}
use Rattle.reg_import.proofs.Places.{StandsAtNone, first_place, no_place}
use Rattle.reg_import.proofs.column.place_of.Goals as goal

pub returns-then-stands_at : goal.returns-then-stands_at
returns-then-stands_at c =
    let here : stands_at (fields_of c.args.header.now) c.loop-place.place c.args.column ≡ true =
    search rules in
    sym (first_place (fields_of c.args.header.now) c.args.column c.loop-place.place
    c.loop-place.invariant here)

pub returns : goal.returns
returns c =
    let none : StandsAtNone (fields_of c.args.header.now) c.args.column
    (length (fields_of c.args.header.now)) =
    λ k below. c.loop-place.invariant k (omega arith) in
    sym (no_place (fields_of c.args.header.now) c.args.column none)
