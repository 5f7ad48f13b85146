use Rattle.reg_rows.proofs.Looking.{looks_told}
use Rattle.reg_content.proofs.pending.filed.Goals as goal

pub returns-in-Ok : goal.returns-in-Ok
returns-in-Ok g c =
    let request = c.args.request in
    looks_told c.in-Ok.ensures (λ w seats i.
    record { request = request; experts = seats.0 i; advice = seats.1 i })
