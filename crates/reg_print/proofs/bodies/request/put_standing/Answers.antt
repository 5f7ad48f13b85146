use Rattle.reg_print.proofs.PrintedTokens.{◌▸◌}
use Rattle.reg_print.proofs.bodies.request.put_standing.Goals as goal

pub returns : goal.returns
returns c =
    let state = rw (c.word.ensures, c.word-state.ensures) at c.put_text.ensures in
    c.put_given_if.ensures ▸ c.put_reason_if.ensures ▸ c.put.ensures ▸ state
