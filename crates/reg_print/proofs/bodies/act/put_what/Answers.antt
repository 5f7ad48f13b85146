use Rattle.reg_print.proofs.PrintedTokens.{◌▸◌}
use Rattle.reg_print.proofs.bodies.act.put_what.Goals as goal

pub returns : goal.returns
returns c =
    let pool = rw c.pool.ensures at c.put_pool_if.ensures in
    let reference = rw c.reference.ensures at c.put_if.ensures in
    let registry = rw c.registry.ensures at c.put_if-2.ensures in
    let token = rw c.token.ensures at c.put_if-3.ensures in
    let value = rw c.value.ensures at c.put_value_if.ensures in
    let verdict = rw c.verdict.ensures at c.put_verdict_if.ensures in
    pool ▸ reference ▸ registry ▸ token ▸ value ▸ verdict
