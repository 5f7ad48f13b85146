-- What is answered to every clerk is answered to this one.
use Rattle.reg_commands.proofs.clerk.perform.Goals as goal

pub returns-in-AllRequests : goal.returns-in-AllRequests
returns-in-AllRequests g c = rw c.in-AllRequests.is (c.list_all.ensures c.args.caller.now)

pub returns-in-PendingRequests : goal.returns-in-PendingRequests
returns-in-PendingRequests g c =
    rw c.in-PendingRequests.is (c.list_pending.ensures c.args.caller.now)

pub returns-in-OneRequest : goal.returns-in-OneRequest
returns-in-OneRequest g c = rw c.in-OneRequest.is (c.show_one.ensures c.args.caller.now)

pub returns-in-AllCapabilities : goal.returns-in-AllCapabilities
returns-in-AllCapabilities g c =
    rw c.in-AllCapabilities.is (c.list_all-in-AllCapabilities.ensures c.args.caller.now)

pub returns-in-ActsOn : goal.returns-in-ActsOn
returns-in-ActsOn g c = rw c.in-ActsOn.is (c.list_day.ensures c.args.caller.now)

pub returns-in-ActsBy : goal.returns-in-ActsBy
returns-in-ActsBy g c = rw c.in-ActsBy.is (c.list_actor.ensures c.args.caller.now)

pub returns-in-ActsAbout : goal.returns-in-ActsAbout
returns-in-ActsAbout g c = rw c.in-ActsAbout.is (c.list_request.ensures c.args.caller.now)
