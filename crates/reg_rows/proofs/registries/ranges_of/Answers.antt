use Rattle.std.proofs.Common.{rules, ◌≡◌, ap, ◌∙◌, map}
use Rattle.std.proofs.lemmas.Simd.{map-map}
use Rattle.reg_statements.proofs.RegistryRows.{ranges-at}
use Rattle.reg_rows.proofs.Looking.{looks_made}
use Rattle.reg_rows.proofs.Statements.{lists_ranges}
use Rattle.reg_rows.proofs.registries.ranges_of.Goals as goal

pub returns : goal.returns
returns g c =
    let name = c.args.name.now in
    looks_made c.in_ok-rows.ensures.rows (λ p is t there.
    let rows = c.in_ok-rows.rows.items in
    let alone : c.in_ok-without_registry.field-0.items ≡ map (λ r. r.range) rows =
    search rules in
    alone ∙ ap (map (λ r. r.range)) (is _ (rw c.name_value.ensures (lists_ranges name)))
    ∙ map-map _ _ _ ∙ ranges-at p.maxes p.ranges name t there)
