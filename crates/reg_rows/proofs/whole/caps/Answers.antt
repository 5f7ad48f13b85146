use Rattle.std.proofs.Common.{rules, ◌≡◌, ap, ◌∙◌, map}
use Rattle.reg_rows.specs.Whole.{cap_of}
use Rattle.reg_rows.proofs.Looking.{looks_made}
use Rattle.reg_rows.proofs.WholeTables.{caps_listed, lists_caps}
use Rattle.reg_rows.proofs.whole.caps.Goals as goal

pub returns : goal.returns
returns g c =
    looks_made c.in_ok-grants.ensures.rows (λ p is.
    let listed : c.from_vec.result ≡ map cap_of c.in_ok-grants.grants.items = search rules in
    listed ∙ ap (map cap_of) (is _ lists_caps) ∙ caps_listed p)
