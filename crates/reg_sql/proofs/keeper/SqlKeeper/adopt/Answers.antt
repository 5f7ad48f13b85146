use Rattle.std.proofs.Common.{subst, sym}
use Rattle.sqlite.specs.Held.{state}
use Rattle.reg_tables.specs.Connection.{Holds, Works}
use Rattle.reg_statements.specs.Content.{world_in}
use Rattle.reg_sql.specs.Opening.{IsOpened}
use Rattle.reg_sql.proofs.keeper.SqlKeeper.adopt.Goals as goal

pub returns-in-Ok-clause-opened : goal.returns-in-Ok-clause-opened
returns-in-Ok-clause-opened g c =
    let old = state g.S.Store c.args.conn in
    subst (λ conn. Holds (state g.S.Store conn)
    → Works old × IsOpened c.args.fresh old.now (world_in (state g.S.Store conn)))
    (sym c.new.ensures) (λ h. (c.in-Ok.ensures.takes.worked h.works, c.in-Ok.ensures.takes.opened h))
