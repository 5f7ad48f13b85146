use Rattle.reg_client.proofs.Heads.{end_joined}
use Rattle.reg_client.proofs.answers.body_in.Goals as goal

pub returns-then-says : goal.returns-then-says
returns-then-says c =
    end_joined c.args.text.now c.in_ok-digits.digits.now c.in_ok-rest.rest.now c.in_ok-digits.rest.now
    c.in_ok-body.body.now c.in_ok-rest.ensures.leaves c.in_ok-digits.ensures.whole
    (c.says.ensures c.if-says.true) c.in_ok-body.ensures.leaves
