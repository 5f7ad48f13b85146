use Rattle.std.proofs.Common.{rules, ◌≡◌, ap, ◌∙◌, option_map, refl}
use Rattle.reg_rows.proofs.Found.{made_back}
use Rattle.reg_rows.proofs.Looking.{looks_made}
use Rattle.reg_rows.proofs.Statements.{finds_cap}
use Rattle.reg_content.proofs.caps.cap.Goals as goal

pub returns : goal.returns
returns g c =
    looks_made c.in_ok-grant.ensures.row (λ p is.
    let mapped : c.map.result ≡ option_map (λ g. g.cap) c.in_ok-grant.grant = search rules in
    mapped
    ∙ ap (option_map (λ g. g.cap))
    (is.at_key c.args.digest.now (rw c.name_value.ensures (finds_cap c.args.digest.now)))
    ∙ made_back (λ g. g.cap) _ (λ cap. refl) _)
