use Rattle.std.proofs.Common.{rules, ◌≡◌, subst}
use Rattle.sqlite.specs.Held.{state}
use Rattle.reg_statements.specs.Content.{world_in}
use Rattle.reg_core.specs.BlockDue.{due_in}
use Rattle.reg_vacancies.specs.Vacancies.{AreVacanciesOf}
use Rattle.reg_sql.proofs.keeper.Tables.due.Goals as goal

pub returns : goal.returns
returns g c = record {
  keeping = search rules;
  endures = search rules;
  stays = search rules;
  on = search rules;
  value = λ h.
      let w = world_in (state g.S.Store c.self.inside.conn) in
      let are : AreVacanciesOf w c.in_ok-vacancies.vacancies = search rules in
      subst (λ conn. c.due-due.result
      ≡ due_in (world_in (state g.S.Store conn)).pool (world_in (state g.S.Store conn)).blocks
      c.args.size) c.self.view_is (c.due-due.ensures w.entries w.pool w.blocks are);
}
