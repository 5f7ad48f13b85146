use Rattle.std.proofs.Common.{◌∙◌, ℕ, List, FitsSigned, inr, refl, subst, w64}
use Rattle.std.specs.Io.KnownBytes.{Appends}
use Rattle.std.proofs.lemmas.Int.{to_z-of_z}
use Rattle.reg_program.specs.Copying.{copied_line}
use Rattle.reg_program.proofs.Did.{write_prints}
use Rattle.reg_program.proofs.Results.{err_as, ok_as}
use Rattle.reg_program.proofs.copying.copy_in.Goals as goal

pub returns-clause-printed : goal.returns-clause-printed
returns-clause-printed g c =
    let fits : FitsSigned w64 c.args.version = c.ranges.version in
    let line = c.in_ok-line.ensures.line in
    let told = simp to_z-of_z at line.2 in
    let had = g.W.Write.contents c.args.output.now in
    let has = g.W.Write.contents c.print.new.output in
    let P : List ℕ → Type 0 = λ bytes. Appends had has bytes in
    ok_as c.print.result
    (λ wrote. (
      c.args.version,
      line.0,
      (refl, line.1),
      subst P {y = copied_line c.args.version line.0} (c.as_bytes.ensures.value ∙ told) wrote,
    ))
    c.print.ensures.ok

pub returns-clause-failed : goal.returns-clause-failed
returns-clause-failed g c =
    λ tells. err_as c.print.result (λ why is. inr (inr (c.in_ok-place.ensures.put tells, write_prints why is)))
    c.print.ensures.err
