use Rattle.std.proofs.Common.{◌≡◌, ◌⊎◌, None, Some, ℕ, ◌+◌, List, length, length-append, inl, inr, [], ◌∷◌, ◌++◌, refl, ◌∙◌, arith, rules}
use Rattle.sqlite.specs.Held.{state}
use Rattle.sqlite.specs.Order.{Row}
use Rattle.sqlite.specs.State.{State, Fails, HasCleanDisk, IsUnchanged}
use Rattle.sqlite.specs.declared.error.Error.{Error}
use Rattle.reg_tables.specs.Faulting.{HasFailed, IsSame}
use Rattle.sqlite.specs.Values.{bound}
use Rattle.reg_tables.proofs.Faults.{has_failed, is_same, not_queried}
use Rattle.reg_tables.proofs.RestLemmas.{refused_rests, begun_idle, whole_answer, survives_lasts, lasts_then}
use Rattle.sqlite.proofs.Callers.{unchanged_then}
use Rattle.reg_statements.specs.Reading.{AreTaken}
use Rattle.reg_statements.proofs.read.take_rows.Goals as goal

failed_or_not : (old new : State) (e : Error) → Fails old new ⊥ e ⊎ IsUnchanged old new
    → HasFailed old new e ⊎ IsSame old new
failed_or_not old new e (inl failed) = inl (has_failed old new ⊥ e failed)
failed_or_not old new e (inr u) = inr (is_same old new u)

one_longer : (rows : List Row) (row : Row) (n : ℕ) → length rows ≡ n
    → length (rows ++ row ∷ []) ≡ n + 1
one_longer rows row n is = omega (arith, length-append rows (row ∷ []), is)

pub returns-in-Err-clause-rests : goal.returns-in-Err-clause-rests
returns-in-Err-clause-rests g c clean =
    let old = state g.S.Store c.args.conn.now in
    let new = state g.S.Store c.query.follows.lender-at-none in
    let refused = rw c.in-Err.is at c.query.follows.holds-at-none in
    refused_rests c.args.sql.now (bound c.args.params.now) old new _ (refused.err clean)

pub returns-in-Err-clause-cause : goal.returns-in-Err-clause-cause
returns-in-Err-clause-cause g c =
    rw c.heard.ensures.same (λ clean.
    let old = state g.S.Store c.args.conn.now in
    let new = state g.S.Store c.query.follows.lender-at-none in
    let refused = rw c.in-Err.is at c.query.follows.holds-at-none in
    not_queried old new c.args.sql.now (bound c.args.params.now) _ (refused.err clean))

pub rows-init : goal.rows-init
rows-init g c =
    let old = c.args.conn.now in
    let new = c.in-Ok.rows.conn.now in
    let made = c.in-Ok.ensures in
    let begun = λ (clean : HasCleanDisk (state g.S.Store new)).
    begun_idle g.S.Store c.args.sql.now (bound c.args.params.now) old new c.requires.plain
    (made.begun clean) in
    record {
      same_reference = refl;
      mode = made.mode c.requires.idle.autocommit;
      lasts = survives_lasts _ _ _ made.survives;
      same = λ clean. (begun clean).1;
      whole = λ whole. whole;
      given = λ clean. ([], (begun clean).0, refl, ([], refl, refl));
    }

pub rows-preserved : goal.rows-preserved
rows-preserved g c =
    let later = c.next.follows.lender-at-none.conn.now in
    let moved = c.next.follows.holds-at-none in
    let was = c.rows.invariant in
    let early : HasCleanDisk (state g.S.Store later)
    → HasCleanDisk (state g.S.Store c.rows.rows.conn.now) =
    λ clean. omega (arith, moved.survives.clean, clean) in
    record {
      same_reference = moved.same_reference ∙ was.same_reference;
      mode = moved.mode was.mode;
      lasts = lasts_then _ _ _ was.lasts (survives_lasts _ _ _ moved.survives);
      same = λ clean. unchanged_then _ _ _ (was.same (early clean))
          (rw c.in-Ok-Some.is at (moved.same clean));
      whole = λ whole. c.in_ok-read.ensures.whole (was.whole whole);
      given = λ clean.
          let had = was.given (early clean) in
          let some : c.in-Ok-Some.field-0 ≡ Some c.in-Ok-Some.row = c.in-Ok-Some.field-0-is in
          let on = (rw some at (rw c.in-Ok-Some.is at (moved.ok clean))) c.args.sql.now
          (bound c.args.params.now) had.0 had.1 in
          (had.0 ++ c.in-Ok-Some.row.now ∷ [], on, one_longer had.0 c.in-Ok-Some.row.now _ had.2, c.in_ok-read.ensures.taken c.args.sink.now had.0 had.3);
    }

pub returns-in-Ok-None-clause-rows : goal.returns-in-Ok-None-clause-rows
returns-in-Ok-None-clause-rows g c clean =
    let old = c.args.conn.now in
    let now = c.rows.rows.conn.now in
    let later = c.next.follows.lender-at-none.conn.now in
    let moved = c.next.follows.holds-at-none in
    let late : HasCleanDisk (state g.S.Store later) = search rules in
    let early : HasCleanDisk (state g.S.Store now) =
    omega (arith, moved.survives.clean, late) in
    let was = c.rows.invariant.given early in
    let none : c.in-Ok-None.field-0 ≡ None = c.in-Ok-None.field-0-is in
    let shown = (rw none at (rw c.in-Ok-None.is at (moved.ok late))) c.args.sql.now
    (bound c.args.params.now) was.0 was.1 in
    let done = whole_answer g.S.Store c.args.sql.now (bound c.args.params.now)
    (λ rows. AreTaken g.T.Record.of g.K.Sink.Takes c.args.sink.now rows c.rows.sink c.rows.read) old now later later was.0
    c.requires.plain refl (c.rows.invariant.same early)
    (rw c.in-Ok-None.is at (moved.same late)) shown was.3 in
    search rules
