use Rattle.std.proofs.Common.{map, refl, ap, ◌∙◌}
use Rattle.reg_core.specs.Holding.{holding_row}
use Rattle.reg_rows.proofs.BlockRowsListed.{listed_are, pair}
use Rattle.reg_rows.proofs.Found.{pairs_again}
use Rattle.reg_rows.proofs.Looking.{looks_made}
use Rattle.reg_rows.proofs.Statements.{lists_blocks}
use Rattle.reg_content.proofs.blocks.blocks.Goals as goal

pub returns : goal.returns
returns g c =
    looks_made c.in_ok-holdings.ensures.rows (λ p is.
    c.in_ok-listed_all.ensures
    ∙ listed_are p.blocks c.in_ok-holdings.holdings.items
    (ap (map pair) (is _ lists_blocks) ∙ pairs_again pair holding_row (λ e. refl) _))
