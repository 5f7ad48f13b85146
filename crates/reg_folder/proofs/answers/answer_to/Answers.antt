use Rattle.std.proofs.Common.{Err, Ok, refl}
use Rattle.reg_folder.proofs.answers.answer_to.Goals as goal

pub returns-in_ok-answer-in-Ok : goal.returns-in_ok-answer-in-Ok
returns-in_ok-answer-in-Ok g c =
    let read = c.in-Ok.ensures.ok in
    (Ok read.0, c.readers_ask_by_all_their_bytes.ensures c.args.request.now _ (Ok read.0) read.2, c.in_ok-answer-in-Ok.ensures read.0 read.1)

pub returns-in-Err-Refused : goal.returns-in-Err-Refused
returns-in-Err-Refused g c =
    let why = c.in-Err-Refused.field-0-0 in
    let asked = rw c.in-Err-Refused.field-0-is at c.in-Err-Refused.ensures.err in
    (Err why, c.readers_ask_by_all_their_bytes.ensures c.args.request.now _ (Err why) asked, (refl, refl))
