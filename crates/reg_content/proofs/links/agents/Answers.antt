use Rattle.std.proofs.Common.{rules, ◌≡◌, sym, ap, ◌∙◌, map}
use Rattle.std.proofs.lemmas.Simd.{map-map}
use Rattle.reg_rows.proofs.Looking.{looks_made}
use Rattle.reg_rows.proofs.Statements.{lists_agents}
use Rattle.reg_content.proofs.links.agents.Goals as goal

pub returns : goal.returns
returns g c =
    looks_made c.in_ok-links.ensures.rows (λ p is.
    let named : c.from_vec.result ≡ map (λ l. l.agent) c.in_ok-links.links.items = search rules in
    named ∙ ap (map (λ l. l.agent)) (is _ (rw c.name_value.ensures (lists_agents c.args.account.now)))
    ∙ map-map _ _ _ ∙ sym (map-map _ _ _))
