use Rattle.std.proofs.Common.{ap, ◌∙◌}
use Rattle.reg_rows.proofs.Looking.{looks_told}
use Rattle.reg_rows.proofs.MinutedRows.{minute_read}
use Rattle.reg_core.specs.Minutes.{ask_with}
use Rattle.reg_rows.proofs.minutes.RequestMinuted.minuted.Goals as goal

pub returns-in-Ok : goal.returns-in-Ok
returns-in-Ok g c =
    let request = c.args.self in
    looks_told c.in-Ok.ensures (λ p read.
    c.with_minute.ensures
    ∙ ap (λ minute. record request { ask = ask_with minute request.ask }) read
    ∙ ap (λ ask. record request { ask = ask }) (minute_read request.ask _))
