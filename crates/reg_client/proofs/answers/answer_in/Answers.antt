use Rattle.reg_client.proofs.Heads.{answer_joined}
use Rattle.reg_client.proofs.answers.answer_in.Goals as goal

pub returns-clause-whole : goal.returns-clause-whole
returns-clause-whole c =
    answer_joined c.in_ok-status.status c.in_ok-format.format c.args.answer.now
    c.in_ok-rest.rest.now c.in_ok-format.rest.now c.in_ok-body.body.now
    c.in_ok-rest.ensures c.in_ok-format.ensures c.in_ok-body.ensures
