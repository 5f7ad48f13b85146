use Rattle.std.proofs.Common.{subst}
use Rattle.std.proofs.lemmas.Result.{IfOk-weaker}
use Rattle.reg_folder.specs.Answers.{AnswersSite}
use Rattle.reg_folder.proofs.answers.answer_message.Goals as goal

pub returns : goal.returns
returns g c =
    IfOk-weaker c.answer_parts.result _ _
    (λ given answers request is.
    subst (λ r. AnswersSite g.S.SiteFiles.Finds c.args.files.now c.answer_parts.new.files r given)
    (c.parts.ensures request is) answers)
    c.answer_parts.ensures
