use Rattle.std.proofs.Common.{◌≡◌, map, ◌∙◌, Ok}
use Rattle.sqlite.specs.Held.{state}
use Rattle.reg_tables.proofs.RestLemmas.{stays_held}
use Rattle.reg_keeper.specs.declared.keeper.Fault.{Fault}
use Rattle.reg_core.specs.Queue.{queue_rows}
use Rattle.reg_core.specs.View.{queue_of}
use Rattle.reg_rows.specs.Calls.{LooksIn}
use Rattle.reg_rows.specs.Seats.{seen_row}
use Rattle.reg_rows.proofs.Looking.{looks, looks_joined}
use Rattle.reg_rows.proofs.MinutedRows.{bare_world, queue_minuted}
use Rattle.reg_rows.proofs.QueuedRowsFound.{queue_found}
use Rattle.reg_content.proofs.reviews.queue.Goals as goal

pub returns : goal.returns
returns g c =
    let old = state g.S.Store c.args.conn.now in
    let read = state g.S.Store c.all.new.conn in
    let expert = c.args.expert.now in
    let first : LooksIn {E = Fault} old read (Ok c.in_ok-requests.requests)
    (λ p rows. map seen_row rows.items ≡ queue_rows (queue_of expert (bare_world p))) =
    looks c.requires c.all.ensures.idle c.all.ensures.endures c.all.ensures.stays (λ h.
    let was = c.requires.stored (stays_held c.all.ensures.stays h) in
    let rows = c.in_ok-requests.ensures.rows h.works in
    let shown = rw c.name_value.ensures at rows.1 in
    queue_found old read rows.0 was expert c.in_ok-requests.requests.items
    c.in_ok-requests.ensures.ascending shown rows.2) in
    looks_joined c.requires first c.in_ok-minuted_each.ensures (λ p ties is seen.
    c.from_vec.ensures ∙ seen ∙ queue_minuted p expert c.in_ok-requests.requests.items is)
