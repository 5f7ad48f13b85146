use Rattle.std.proofs.Common.{refl, inl, inr}
use Rattle.std.proofs.lemmas.Result.{err_from_is_err_and}
use Rattle.reg_program.proofs.scripts.found_and_run.Goals as goal

pub returns-in_err-found-clause-err : goal.returns-in_err-found-clause-err
returns-in_err-found-clause-err g c =
    let given = c.in_err-found.ensures in
    let p = err_from_is_err_and c.from_residual.result c.from_residual.ensures.1 in
    rw (p.1, p.2)
    (inl (
      c.in_err-found.field-0.0,
      refl,
      record { cause = given.cause; kept = given.kept; premise = given.premise; may = given.fault },
      refl,
      refl,
    ))

pub returns-in_err-run_flushed-clause-err : goal.returns-in_err-run_flushed-clause-err
returns-in_err-run_flushed-clause-err g c =
    let given = c.in_ok-found.ensures in
    let p =
    err_from_is_err_and c.from_residual-in_err-run_flushed.result
    c.from_residual-in_err-run_flushed.ensures.1 in
    rw (p.1, p.2)
    (inr (
      c.in_err-run_flushed.field-0.0,
      refl,
      c.found.new.self,
      record { founded = given.founded; premise = given.premise },
      c.in_err-run_flushed.ensures.err,
    ))

pub returns-clause-ok : goal.returns-clause-ok
returns-clause-ok g c =
    let given = c.in_ok-found.ensures in
    record {
      office = c.found.new.self;
      founds = record { founded = given.founded; premise = given.premise };
      answers = c.in_ok-run_flushed.ensures.ok;
    }
