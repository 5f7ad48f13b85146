use Rattle.std.proofs.Common.{rules, ◌≡◌, ap, ◌∙◌, map}
use Rattle.reg_rows.proofs.ActsListed.{acts_of_rows}
use Rattle.reg_rows.proofs.Looking.{looks_made}
use Rattle.reg_rows.proofs.Statements.{lists_acts_on}
use Rattle.reg_rows.proofs.acts.acts_on.Goals as goal

pub returns : goal.returns
returns g c =
    looks_made c.in_ok-rows.ensures.rows (λ p is.
    let acts : c.from_vec.result ≡ map (λ n. n.act) c.in_ok-rows.rows.items = search rules in
    acts ∙ ap (map (λ n. n.act)) (is _ (rw (c.whole_value.ensures, c.from-day.ensures, c.days.ensures.value) (lists_acts_on c.args.day)))
    ∙ acts_of_rows _ p)
