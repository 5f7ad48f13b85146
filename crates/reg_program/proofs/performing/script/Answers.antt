use Rattle.std.proofs.Common.{◌≡◌, refl, subst, sym}
use Rattle.std.specs.Option.{option_map}
use Rattle.std.specs.String.{string_bytes}
use Rattle.reg_program.specs.Inputs.{AreKnown, token_in}
use Rattle.reg_program.specs.Performing.{RunsIn, Tries}
use Rattle.reg_program.specs.Tasks.{streams_by}
use Rattle.reg_program.proofs.InMemory.{ran}
use Rattle.reg_program.proofs.performing.script.Goals as goal

pub returns : goal.returns
returns g c =
    let io = streams_by g.R.Read.remaining g.W.Write.contents g.D.Dates.readings c.args.console.now
    c.run_over.new.console c.args.dates.now c.args.dates.now in
    let done = c.run_over.result in
    let Same = c.args.offices.now ≡ c.args.offices.now in
    let said = subst (AreKnown (token_in c.args.clerk.now)) (sym c.as_slice-clerk.ensures.value)
    c.in_ok-token.ensures in
    subst (λ file. Tries Same
    (RunsIn (option_map string_bytes file) c.args.clerk.now
    (g.O.Offices.Carried c.args.offices.now c.args.offices.now) Same io) done)
    (sym c.in-None.is)
    (ran Same c.args.clerk.now c.as_slice-clerk.result.now io c.new.result done refl said
    c.new.ensures c.run_over.ensures)
