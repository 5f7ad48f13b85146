use Rattle.std.proofs.Common.{rules}
use Rattle.reg_client.specs.Allocation.{due_entry}
use Rattle.reg_client.proofs.Growing.{filtered_more}
use Rattle.reg_client.proofs.allocation.push_due.Goals as goal

pub loop-entry-preserved : goal.loop-entry-preserved
loop-entry-preserved c =
    filtered_more (due_entry c.args.page.now.name c.args.today c.args.days) c.args.due.now.items
    c.loop-entry.due.items c.push_if_due.new.due.items c.args.page.now.entries
    c.loop-entry.entry-index c.entry-item.result (search rules) (search rules) c.loop-entry.invariant
    c.in_ok-push_if_due.ensures
