use Rattle.std.proofs.Common.{rules, ◌≡◌, ap, ◌∙◌, option_map, refl}
use Rattle.reg_core.specs.World.{RequestName}
use Rattle.reg_rows.proofs.Found.{made_back}
use Rattle.reg_rows.proofs.Looking.{looks_told}
use Rattle.reg_rows.proofs.Statements.{finds_minute}
use Rattle.reg_rows.proofs.minutes.minute.Goals as goal

pub returns : goal.returns
returns g c =
    let name : RequestName = (c.args.account.now, c.args.reference.now) in
    looks_told c.in_ok-found.ensures.row (λ p is.
    let mapped : c.map.result ≡ option_map (λ m. m.minute) c.in_ok-found.found = search rules in
    mapped
    ∙ ap (option_map (λ m. m.minute))
    (is.at_key name (rw (c.name_value.ensures, c.name_value-2.ensures) (finds_minute name)))
    ∙ made_back (λ m. m.minute) _ (λ m. refl) _)
