use Rattle.reg_print.proofs.PrintedTokens.{◌▸◌}
use Rattle.reg_print.proofs.bodies.advice.put_advice.Goals as goal

pub returns : goal.returns
returns c =
    let verdict = rw c.word.ensures at c.put_text.ensures in
    c.put.ensures ▸ verdict
