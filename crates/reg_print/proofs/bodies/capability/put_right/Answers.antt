use Rattle.reg_print.proofs.PrintedTokens.{◌▸◌}
use Rattle.reg_print.proofs.bodies.capability.put_right.Goals as goal

pub returns : goal.returns
returns c =
    let kind = rw c.word.ensures at c.put_text.ensures in
    let until = rw c.seconds.ensures.value at c.put_number.ensures in
    kind ▸ until
