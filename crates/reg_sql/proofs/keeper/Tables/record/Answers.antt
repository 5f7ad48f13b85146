use Rattle.std.proofs.Common.{subst, sym}
use Rattle.sqlite.specs.Held.{state}
use Rattle.reg_core.specs.WellKept.{CanApply, WellKept}
use Rattle.reg_tables.specs.Connection.{Holds}
use Rattle.reg_statements.specs.Content.{world_in}
use Rattle.reg_vacancies.specs.Vacancies.{MayBeOf}
use Rattle.reg_sql.proofs.Counting.{counts_on, follows_with}
use Rattle.reg_sql.proofs.keeper.Tables.record.Goals as goal

pub record-requires-clause-fits : goal.record-requires-clause-fits
record-requires-clause-fits g c =
    subst (λ conn. Holds (state g.S.Store conn)
    → CanApply (world_in (state g.S.Store conn)) c.args.change.now) (sym c.self.view_is)
    c.requires.fits

pub invariant_of-self-2 : goal.invariant_of-self-2
invariant_of-self-2 g c =
    let alters = c.in_ok-self-inside.ensures.alters in
    record {
      keeping = alters.keeping;
      follows = λ h.
          let w = world_in (state g.S.Store c.self.inside.conn) in
          let well =
          subst (λ conn. Holds (state g.S.Store conn) → WellKept (world_in (state g.S.Store conn)))
          (sym c.self.view_is) c.requires.well in
          let fits =
          subst (λ conn. Holds (state g.S.Store conn)
          → CanApply (world_in (state g.S.Store conn)) c.args.change.now) (sym c.self.view_is)
          c.requires.fits in
          let may =
          subst (λ free. MayBeOf w free) (sym c.take-vacancies.ensures.value)
          (c.self.invariant.follows (alters.held h)) in
          follows_with w (world_in (state g.S.Store c.record.new.conn)) c.args.acts.now
          c.args.change.now c.followed.result (alters.made h)
          (c.followed.ensures w (well (alters.held h)) (fits (alters.held h)) may);
      counts =
          counts_on c.args.change.now c.args.acts.now c.self.inside.last c.in_ok-self-inside.field-0
          alters c.self.invariant.counts c.in_ok-self-inside.ensures.last;
    }
