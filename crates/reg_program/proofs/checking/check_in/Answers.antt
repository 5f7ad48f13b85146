use Rattle.std.proofs.Common.{◌∙◌, FitsSigned, w64}
use Rattle.std.specs.Io.KnownBytes.{Appends}
use Rattle.std.proofs.lemmas.Int.{to_z-of_z}
use Rattle.reg_program.proofs.Checked.{is_checked}
use Rattle.reg_program.proofs.Did.{ends_printing, write_prints}
use Rattle.reg_program.proofs.Results.{err_as}
use Rattle.reg_program.proofs.checking.check_in.Goals as goal

pub returns-clause-does : goal.returns-clause-does
returns-clause-does g c =
    let world = g.K.Keeper.world in
    let given = c.in_ok-counts.ensures in
    let fits : FitsSigned w64 c.args.version = c.ranges.version in
    let text = simp to_z-of_z at c.in_ok-text.ensures in
    let had = g.W.Write.contents c.args.output.now in
    let has = g.W.Write.contents c.print.new.output in
    ends_printing world g.K.Keeper.Holds g.K.Keeper.Sound g.K.Keeper.FAILS c.args.office.now
    c.count.new.self _ _ c.print.result (Appends had has c.as_bytes.result.now) c.print.ensures.ok
    (err_as c.print.result write_prints c.print.ensures.err) given.premise
    (λ h wrote. is_checked c.args.version c.args.moment had has (world c.args.office.now)
    (world c.count.new.self) c.in-Some.today c.in_ok-counts.counts c.as_bytes.result.now
    c.in-Some.ensures.value (given.same h) (given.value h)
    (c.as_bytes.ensures.value ∙ text) wrote)
    (λ h why of. given.same h)
