use Rattle.std.proofs.Common.{ap, is_some, ◌∙◌}
use Rattle.reg_rows.proofs.Found.{made_some}
use Rattle.reg_rows.proofs.Looking.{looks_made}
use Rattle.reg_rows.proofs.Statements.{finds_prefix}
use Rattle.reg_rows.proofs.pool.is_pooled.Goals as goal

pub returns : goal.returns
returns g c =
    looks_made c.in_ok-found.ensures.row (λ p is.
    c.is_some.ensures
    ∙ ap is_some (is.at_key c.args.prefix (rw c.number_value.ensures (finds_prefix c.args.prefix)))
    ∙ made_some _ _)
