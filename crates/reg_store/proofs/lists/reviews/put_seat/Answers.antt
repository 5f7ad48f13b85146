use Rattle.std.proofs.Common.{◌≡◌, List, ℕ, ap, ◌∙◌}
use Rattle.std.specs.Prelude.{None}
use Rattle.std.specs.FinMap.{get, remove}
use Rattle.reg_maps.proofs.FiniteMaps.Nested.{remove-inserted}
use Rattle.reg_core.specs.World.{RequestName}
use Rattle.reg_store.specs.Lists.Panels.{seats}
use Rattle.reg_store.specs.Lists.Queues.{all_queues}
use Rattle.reg_store.proofs.QueueLaws.Rows.{queue_keys}
use Rattle.reg_store.proofs.lists.reviews.put_seat.Goals as goal

pub returns-in-Err-clause-same_rows : goal.returns-in-Err-clause-same_rows
returns-in-Err-clause-same_rows c =
    let old = all_queues c.args.queues.now in
    let place : List ℕ × RequestName = (c.args.expert.now, c.args.name.now) in
    let absent : get (seats c.args.panels.now) (c.args.name.now, c.args.expert.now) ≡ None =
    c.in-Err.ensures.absent in
    c.take_row.ensures ∙ ap (λ rows. remove rows place) c.in_ok-put_row.ensures.ok
    ∙ remove-inserted queue_keys old place c.args.row (c.requires absent)
