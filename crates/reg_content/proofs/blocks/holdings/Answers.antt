use Rattle.std.proofs.Common.{◌∙◌}
use Rattle.reg_rows.proofs.Looking.{looks_made}
use Rattle.reg_rows.proofs.Statements.{lists_holdings}
use Rattle.reg_content.proofs.blocks.holdings.Goals as goal

pub returns : goal.returns
returns g c =
    looks_made c.in_ok-holdings.ensures.rows (λ p is.
    c.from_vec.ensures ∙ is _ (rw c.name_value.ensures (lists_holdings c.args.account.now)))
