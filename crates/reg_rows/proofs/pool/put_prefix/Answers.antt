use Rattle.std.proofs.Common.{inl, inr}
use Rattle.reg_rows.proofs.PoolRowsListed.{there_before}
use Rattle.reg_rows.proofs.pool.put_prefix.Goals as goal

pub returns-in-Added : goal.returns-in-Added
returns-in-Added c = elim c.in-Added.is [
  | inl added ↦ c.add.ensures.added added
  | inr there ↦ there_before c.args.pool.now c.add.new.self c.args.prefix
      (c.add.ensures.there.0 there).1 (c.add.ensures.same (λ added. cc))
]
