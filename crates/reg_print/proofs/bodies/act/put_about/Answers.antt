use Rattle.reg_print.proofs.PrintedTokens.{◌▸◌}
use Rattle.reg_print.proofs.bodies.act.put_about.Goals as goal

pub returns : goal.returns
returns c =
    let account = rw c.account.ensures at c.put_if.ensures in
    let agent = rw c.agent.ensures at c.put_if-2.ensures in
    let block = rw c.block.ensures at c.put_block_if.ensures in
    let by = rw c.account-2.ensures at c.put_if-3.ensures in
    let digest = rw c.digest.ensures at c.put_if-4.ensures in
    let expert = rw c.expert.ensures at c.put_if-5.ensures in
    account ▸ agent ▸ block ▸ by ▸ digest ▸ expert
