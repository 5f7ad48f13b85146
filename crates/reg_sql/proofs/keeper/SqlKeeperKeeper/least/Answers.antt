use Rattle.std.proofs.Common.{rules, ◌≡◌, subst}
use Rattle.sqlite.specs.Held.{state}
use Rattle.reg_core.specs.LeastFree.{least_free_in}
use Rattle.reg_statements.specs.Content.{world_in}
use Rattle.reg_sql.proofs.Reading.{least_told}
use Rattle.reg_sql.proofs.keeper.SqlKeeperKeeper.least.Goals as goal

pub returns : goal.returns
returns g c = record {
  value = λ h.
      subst (λ keeper. c.least-least.result
      ≡ least_free_in (world_in (state g.S.Store keeper.tables)).registries
      (world_in (state g.S.Store keeper.tables)).entries c.args.registry.now c.args.policy)
      c.self.view_is
      (least_told c.args.registry.now c.args.policy c.in-Some.table c.least-least.result
      c.in_ok-table.ensures c.in-Some.is c.in_ok-vacancies.ensures c.least-least.ensures h);
  same = search rules;
  premise = search rules;
  fault = search rules;
}
