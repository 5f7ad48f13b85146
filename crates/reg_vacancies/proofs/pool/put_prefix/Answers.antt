use Rattle.std.proofs.Common.{inl, inr}
use Rattle.reg_vacancies.proofs.PrefixSets.{prefix_set-add, prefix_set-there}
use Rattle.reg_vacancies.proofs.pool.put_prefix.Goals as goal

pub returns-in-Added-clause-ok : goal.returns-in-Added-clause-ok
returns-in-Added-clause-ok c =
    let old = c.args.pool.now in
    let new = c.add.new.self in
    let prefix = c.args.prefix in
    elim c.in-Added.is [
      | inl added ↦ prefix_set-add old new prefix (c.add.ensures.added added)
      | inr there ↦ prefix_set-there old new prefix (c.add.ensures.there.0 there).1
          (c.add.ensures.same (λ added. cc))
    ]
