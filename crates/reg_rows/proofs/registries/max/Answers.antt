use Rattle.std.proofs.Common.{rules, ◌≡◌, sym, ap, ◌∙◌, option_map, refl}
use Rattle.reg_statements.proofs.RegistryRows.{max-at}
use Rattle.reg_rows.proofs.Found.{made_back}
use Rattle.reg_rows.proofs.Looking.{looks_made}
use Rattle.reg_rows.proofs.Statements.{finds_registry}
use Rattle.reg_rows.proofs.registries.max.Goals as goal

pub returns : goal.returns
returns g c =
    let name = c.args.name.now in
    looks_made c.in_ok-registry.ensures.row (λ p is.
    let mapped : c.map.result ≡ option_map (λ r. r.max) c.in_ok-registry.registry =
    search rules in
    mapped ∙ ap (option_map (λ r. r.max)) (is.at_key name (rw c.name_value.ensures (finds_registry name)))
    ∙ made_back (λ r. r.max) _ (λ max. refl) _ ∙ sym (max-at p.maxes p.ranges name))
