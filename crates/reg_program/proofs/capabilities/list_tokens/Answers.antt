use Rattle.std.proofs.Common.{◌≡◌, List, ℕ, refl}
use Rattle.std.specs.Option.{option_map}
use Rattle.std.specs.String.{string_bytes}
use Rattle.reg_program.specs.Capabilities.{AsksTokens, PrintsListed, PrintsListedOf}
use Rattle.reg_program.specs.Performing.{Carries}
use Rattle.reg_program.specs.Requests.{IsAnsweredAt}
use Rattle.reg_program.specs.Tasks.{streams, streams_by}
use Rattle.reg_program.specs.declared.tasks.Task.TheVariants.{Tokens}
use Rattle.reg_program.proofs.Carried.{carries, file_tells}
use Rattle.reg_program.proofs.Questions.{at_port, served_tells}
use Rattle.reg_program.proofs.capabilities.list_tokens.Goals as goal

pub returns-in-Some : goal.returns-in-Some
returns-in-Some g c =
    let Answered = g.O.Offices.Answered c.args.offices.now in
    let source = c.args.source.now in
    let Asks = AsksTokens (option_map string_bytes c.args.token.now) in
    let console = c.args.console.now in
    let unread = g.R.Read.remaining console.input.now in
    let had = g.W.Write.contents console.output.now in
    let has = g.W.Write.contents c.list_served.new.output in
    let now = g.D.Dates.readings c.args.dates.now in
    let io = streams unread unread had has now now in
    let Of : List ℕ → Type 0 = λ bytes. PrintsListedOf bytes had has in
    served_tells (c.args.offices.now ≡ c.args.offices.now) source
    (PrintsListed (IsAnsweredAt Answered source Asks) had has)
    (Carries (g.O.Offices.Carried c.args.offices.now c.args.offices.now) source
    (λ task. task ≡ Tokens) io)
    c.list_served.result refl (rw c.in-Some.is at c.in_ok-port.ensures.served)
    (at_port Answered source Asks c.in-Some.port Of c.list_served.result
    (rw c.in-Some.is at c.in_ok-port.ensures.number) c.list_served.ensures)

pub returns-in-None : goal.returns-in-None
returns-in-None g c =
    let Answered = g.O.Offices.Answered c.args.offices.now in
    let source = c.args.source.now in
    let Asks = AsksTokens (option_map string_bytes c.args.token.now) in
    let io = streams_by g.R.Read.remaining g.W.Write.contents g.D.Dates.readings c.args.console.now
    c.carry_out.new.console c.args.dates.now c.carry_out.new.dates in
    file_tells (c.carry_out.new.offices ≡ c.args.offices.now) source
    (PrintsListed (IsAnsweredAt Answered source Asks) io.had io.has)
    (Carries (g.O.Offices.Carried c.args.offices.now c.carry_out.new.offices) source
    (λ task. task ≡ Tokens) io)
    c.carry_out.result (rw c.in-None.is at c.in_ok-port.ensures.served)
    (carries (g.O.Offices.Carried c.args.offices.now c.carry_out.new.offices)
    (c.carry_out.new.offices ≡ c.args.offices.now) source (λ task. task ≡ Tokens) io Tokens
    c.carry_out.result c.carry_out.ensures refl)
