use Rattle.std.proofs.lemmas.Result.{IfOk-weaker}
use Rattle.reg_program.proofs.Listed.{shown_at_end}
use Rattle.reg_program.proofs.tokens.end_text.Goals as goal

pub returns : goal.returns
returns c =
    let shown = c.to_datetime-shown.result in
    let at = shown_at_end c.args.until shown c.instant_of.result.nanosecond c.instant_of.ensures
    c.to_datetime-shown.ensures in
    IfOk-weaker c.format.result _ _ (λ text is. (shown, at, is)) c.format.ensures.ok
