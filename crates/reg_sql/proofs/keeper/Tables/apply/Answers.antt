use Rattle.reg_rows.proofs.Joining.{alters_as}
use Rattle.reg_rows.proofs.Journaled.{applied_alone}
use Rattle.reg_sql.proofs.keeper.Tables.apply.Goals as goal

pub returns : goal.returns
returns g c = alters_as c.record.ensures (λ w. applied_alone w c.args.change.now)
