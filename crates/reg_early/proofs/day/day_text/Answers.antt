use Rattle.std.proofs.Common.{ap, length, ◌∙◌}
use Rattle.std.proofs.lemmas.Result.{IfOk-weaker}
use Rattle.reg_early.proofs.DayTexts.{jiffs_text-day, length-text_of_day}
use Rattle.reg_early.proofs.day.day_text.Goals as goal

pub returns-clause-text : goal.returns-clause-text
returns-clause-text c =
    let text =
    jiffs_text-day c.date_on.result c.args.day c.date_on.ensures.is_day
    c.date_on.ensures.number in
    IfOk-weaker c.format.result _ _ (λ s e. e ∙ text) c.format.ensures.ok

pub returns-clause-ten_characters : goal.returns-clause-ten_characters
returns-clause-ten_characters c =
    let text =
    jiffs_text-day c.date_on.result c.args.day c.date_on.ensures.is_day
    c.date_on.ensures.number in
    IfOk-weaker c.format.result _ _ (λ s e. ap length (e ∙ text) ∙ length-text_of_day c.args.day)
    c.format.ensures.ok
