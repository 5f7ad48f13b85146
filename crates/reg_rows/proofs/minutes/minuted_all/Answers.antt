use Rattle.std.proofs.Common.{rules, ◌≡◌, false}
use Rattle.std.specs.List.{list_any}
use Rattle.reg_core.specs.Minutes.{is_renewal}
use Rattle.reg_rows.proofs.Looking.{looks_still}
use Rattle.reg_rows.proofs.MinutedRows.{none_renewed}
use Rattle.reg_rows.proofs.minutes.minuted_all.Goals as goal

pub returns-then-not-any_renewal : goal.returns-then-not-any_renewal
returns-then-not-any_renewal g c =
    let none : list_any (λ r. is_renewal r.ask) c.args.requests.items ≡ false = search rules in
    looks_still c.requires (λ p. none_renewed p c.args.requests.items none)
