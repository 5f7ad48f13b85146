use Rattle.reg_registers.specs.Caller.{stamp_by}
use Rattle.reg_commands.proofs.expert.perform.Goals as goal

pub returns-in-Queue : goal.returns-in-Queue
returns-in-Queue g c = rw c.in-Queue.is (c.list_queue.ensures (stamp_by c.args.caller.now))
