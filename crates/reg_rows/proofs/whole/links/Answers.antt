use Rattle.std.proofs.Common.{rules, ◌≡◌, ap, ◌∙◌, map}
use Rattle.reg_rows.specs.Whole.{link_of}
use Rattle.reg_rows.proofs.Looking.{looks_made}
use Rattle.reg_rows.proofs.WholeTables.{links_listed, lists_links}
use Rattle.reg_rows.proofs.whole.links.Goals as goal

pub returns : goal.returns
returns g c =
    looks_made c.in_ok-links.ensures.rows (λ p is.
    let listed : c.from_vec.result ≡ map link_of c.in_ok-links.links.items = search rules in
    listed ∙ ap (map link_of) (is _ lists_links) ∙ links_listed p)
