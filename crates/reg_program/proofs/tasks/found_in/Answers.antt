use Rattle.std.proofs.Common.{inr}
use Rattle.std.specs.Io.KnownBytes.{Appends}
use Rattle.std.specs.Prelude.{◌≡◌, codes}
use Rattle.reg_program.specs.declared.faults.JobFailure.TheVariants.{Write}
use Rattle.reg_program.specs.declared.faults.Undone.TheVariants.{Fault}
use Rattle.reg_program.proofs.Did.{ends_by, write_may}
use Rattle.reg_program.proofs.Founded.{founds_none}
use Rattle.reg_program.proofs.tasks.found_in.Goals as goal

pub returns-in_err-found_at-clause-does : goal.returns-in_err-found_at-clause-does
returns-in_err-found_at-clause-does g c =
    let given = c.in_err-found_at.ensures in
    founds_none g.K.Keeper.world g.K.Keeper.Holds g.K.Keeper.Sound g.K.Keeper.FAILS
    c.args.office.now c.found_at.new.self c.args.moment c.args.clerk.now _ _ c.in_err-found_at.field-0.0
    c.from_residual.ensures.1 given.cause given.kept given.premise given.fault

pub returns-clause-does : goal.returns-clause-does
returns-clause-does g c =
    let given = c.in_ok-found_at.ensures in
    let had = g.W.Write.contents c.args.output.now in
    let has = g.W.Write.contents c.print.new.output in
    ends_by g.K.Keeper.world g.K.Keeper.Holds g.K.Keeper.Sound g.K.Keeper.FAILS
    c.args.office.now c.found_at.new.self _ _ (λ why. why ≡ Fault Write) c.print.result
    (Appends had has (codes "ready\n")) c.print.ensures.ok c.print.ensures.err (write_may g.K.Keeper.FAILS)
    given.premise (λ h wrote. record { founded = given.founded h; wrote = wrote })
    (λ h why is. inr (is, given.founded h))
