use Rattle.std.proofs.Common.{rules, ◌≡◌, sym, ap, ◌∙◌, map}
use Rattle.std.specs.FinMap.{entries}
use Rattle.std.proofs.lemmas.Simd.{map-map}
use Rattle.reg_maps.proofs.MapLaws.{text_keys}
use Rattle.reg_statements.proofs.RegistryRows.{registry-keys, select-all}
use Rattle.reg_rows.proofs.Looking.{looks_made}
use Rattle.reg_rows.proofs.Statements.{lists_registries}
use Rattle.reg_rows.proofs.registries.names.Goals as goal

pub returns : goal.returns
returns g c =
    looks_made c.in_ok-registries.ensures.rows (λ p is.
    let rows = c.in_ok-registries.registries.items in
    let named : c.from_vec.result ≡ map (λ r. r.name) rows = search rules in
    named ∙ ap (map (λ r. r.name)) (is _ lists_registries) ∙ map-map _ _ _
    ∙ ap (λ m. map (λ e. e.0) (entries m)) (select-all text_keys p.maxes)
    ∙ sym (registry-keys p.maxes p.ranges))
