use Rattle.std.proofs.Common.{rules, ◌≡◌, ap, ◌∙◌, option_map, refl}
use Rattle.reg_core.specs.World.{Seat}
use Rattle.reg_rows.proofs.Found.{made_back}
use Rattle.reg_rows.proofs.Looking.{looks_made}
use Rattle.reg_rows.proofs.Statements.{finds_advice}
use Rattle.reg_rows.proofs.advice.advice.Goals as goal

pub returns : goal.returns
returns g c =
    let wanted : Seat = ((c.args.account.now, c.args.reference.now), c.args.expert.now) in
    looks_made c.in_ok-found.ensures.row (λ p is.
    let mapped : c.map.result ≡ option_map (λ a. a.advice) c.in_ok-found.found = search rules in
    mapped
    ∙ ap (option_map (λ a. a.advice)) (is.at_key wanted (rw (
      c.name_value.ensures,
      c.name_value-2.ensures,
      c.name_value-3.ensures,
    ) (finds_advice wanted)))
    ∙ made_back (λ a. a.advice) _ (λ a. refl) _)
