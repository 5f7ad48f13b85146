use Rattle.std.proofs.Common.{Err, IfErr, Ok, Result, arith, inr, rules}
use Rattle.sqlite.specs.Held.{state}
use Rattle.sqlite.specs.State.{HasCleanDisk}
use Rattle.reg_migration.proofs.migrate.migrate.Goals as goal

for_any : {A E : Type 0} (P : E → Type 0) (r : Result A E) → ((e : E) → P e) → IfErr r P
for_any P (Ok a) h = tt
for_any P (Err e) h = h e

pub returns-clause-given_up : goal.returns-clause-given_up
returns-clause-given_up g c =
    for_any _ c.commit.result (λ e. inr (λ clean.
    let seen = state g.S.Store c.make_and_raise.new.tx.conn.now in
    let was_clean : HasCleanDisk seen = grind (arith, rules) in
    (seen.now, rw c.transaction-tx.ensures.begun at (c.in_ok-make_and_raise.ensures.gained was_clean))))
