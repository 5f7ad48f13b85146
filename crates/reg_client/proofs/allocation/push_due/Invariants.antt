use Rattle.std.proofs.Common.{◌≡◌, ◌++◌, filter_map, take}
use Rattle.reg_client.specs.Allocation.{due_entry}
use Rattle.reg_client.proofs.allocation.push_due.Given as goal

abbrev pub invariant-loop-entry : goal.invariant-loop-entry
invariant-loop-entry l =
    l.due.items
    ≡ l.fn.due.items
    ++ filter_map (due_entry l.page.name l.today l.days) (take l.entry-index l.page.entries)
