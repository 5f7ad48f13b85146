use Rattle.std.proofs.Common.{rules}
use Rattle.reg_sql.proofs.Counting.{stays_well}
use Rattle.reg_sql.proofs.keeper.SqlKeeperKeeper.record.Goals as goal

pub invariant_of-self : goal.invariant_of-self
invariant_of-self g c = record {
  well = stays_well c.args.change c.args.acts.now c.record-made.ensures (search rules) (search rules);
}
