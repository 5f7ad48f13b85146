use Rattle.reg_wire.proofs.AnswerLines.{refusal_is, storage_is}
use Rattle.reg_wire.proofs.script.laws.refusals_are_answers.Goals as goal

pub returns : goal.returns
returns c = record { line = refusal_is; store = storage_is }
