use Rattle.reg_verify.proofs.StrayFiles.{ending_stripped}
use Rattle.reg_verify.proofs.strays.before.Goals as goal

pub returns : goal.returns
returns c =
    ending_stripped c.args.text.now c.args.ending.now c.strip_suffix.result
    c.strip_suffix.ensures.cases
