use Rattle.reg_print.proofs.PrintedTokens.{◌▸◌}
use Rattle.reg_print.proofs.bodies.page.put_frame.Goals as goal

pub returns : goal.returns
returns c =
    let largest = rw (c.from.ensures, c.max.ensures) at c.put_number.ensures in
    largest ▸ c.put.ensures ▸ c.put-2.ensures
