use Rattle.reg_changes.specs.Said.{said_by}
use Rattle.reg_verify.proofs.StrayFiles.{judged, unowned}
use Rattle.reg_verify.proofs.strays.is_stray.Goals as goal

pub returns-in_ok-has-in-Some : goal.returns-in_ok-has-in-Some
returns-in_ok-has-in-Some c =
    judged (said_by c.args.said.now) c.args.file.now c.in-Some.name.now c.in_ok-has-in-Some.has
    c.in-Some.ensures c.in_ok-has-in-Some.ensures

pub returns-in-None : goal.returns-in-None
returns-in-None c = unowned (said_by c.args.said.now) c.args.file.now c.in-None.ensures
