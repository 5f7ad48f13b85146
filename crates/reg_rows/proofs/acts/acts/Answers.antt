use Rattle.std.proofs.Common.{rules, ◌≡◌, ap, ◌∙◌, map, true}
use Rattle.reg_rows.proofs.ActsListed.{acts_of_rows}
use Rattle.reg_rows.proofs.Looking.{looks_made}
use Rattle.reg_rows.proofs.Statements.{lists_acts}
use Rattle.reg_rows.proofs.acts.acts.Goals as goal

pub returns : goal.returns
returns g c =
    looks_made c.in_ok-rows.ensures.rows (λ p is.
    let acts : c.from_vec.result ≡ map (λ n. n.act) c.in_ok-rows.rows.items = search rules in
    acts ∙ ap (map (λ n. n.act)) (is _ lists_acts)
    ∙ acts_of_rows (λ act. true) p)
