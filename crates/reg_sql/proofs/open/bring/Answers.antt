use Rattle.std.proofs.Common.{◌⊎◌, false, inr, refl}
use Rattle.sqlite.specs.Held.{state}
use Rattle.reg_statements.proofs.Migrated.{stored_version}
use Rattle.reg_sql.proofs.Failed.{given_up}
use Rattle.reg_sql.proofs.open.bring.Goals as goal

pub returns-in-Ok-clause-brings : goal.returns-in-Ok-clause-brings
returns-in-Ok-clause-brings g c =
    let old = state g.S.Store c.args.conn.now in
    let v = c.args.older in
    record {
      rest = c.migrate.ensures.rest;
      worked = c.migrate.ensures.worked;
      live = c.in-Ok.ensures.live;
      migrated = λ w stored.
          c.in-Ok.ensures.migrated w stored.office (stored_version v old.now stored);
      gained = c.in-Ok.ensures.gained;
      beside = c.in-Ok.ensures.beside;
      free = refl;
      fault = tt;
      unchanged = λ w. tt;
    }

pub returns-in-Err-clause-cause : goal.returns-in-Err-clause-cause
returns-in-Err-clause-cause g c =
    given_up g.S.Store g.S.Reports.Reported
    (g.S.Loads.Unloaded ⊎ g.S.Grows.Ungrown) false _ _ _ c.in-Err.error _ c.fault.ensures
    (λ works seen gains.
    inr (record {
      version = c.args.older;
      older = c.requires.version;
      found = c.requires.found (c.migrate.ensures.worked works);
      gained = gains;
    })) c.in-Err.ensures.given_up
