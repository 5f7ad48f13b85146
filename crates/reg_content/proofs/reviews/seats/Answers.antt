use Rattle.std.proofs.Common.{rules, ◌≡◌, map, filter_map, ◌∙◌}
use Rattle.sqlite.specs.Held.{state}
use Rattle.reg_core.specs.World.{RequestName}
use Rattle.reg_tables.proofs.RestLemmas.{stays_held}
use Rattle.reg_rows.specs.Seats.{opinion_at}
use Rattle.reg_rows.proofs.Looking.{looks}
use Rattle.reg_rows.proofs.SeatRows.{seats_experts, seats_opinions}
use Rattle.reg_content.proofs.reviews.seats.Goals as goal

pub returns : goal.returns
returns g c =
    let name : RequestName = (c.args.account.now, c.args.reference.now) in
    let old = state g.S.Store c.args.conn.now in
    let new = state g.S.Store c.all.new.conn in
    let seats = c.in_ok-seats.seats.items in
    looks c.requires c.all.ensures.idle c.all.ensures.endures c.all.ensures.stays (λ h.
    let was = c.requires.stored (stays_held c.all.ensures.stays h) in
    let rows = c.in_ok-seats.ensures.rows h.works in
    let shown = rw (c.name_value.ensures, c.name_value-2.ensures) at rows.1 in
    let up = c.in_ok-seats.ensures.ascending in
    let experts : c.from_vec.result ≡ map (λ s. s.seat.expert) seats = search rules in
    let opinions : c.from_vec-2.result ≡ filter_map opinion_at seats = search rules in (
      experts ∙ seats_experts old new rows.0 was name seats up shown rows.2,
      opinions ∙ seats_opinions old new rows.0 was name seats up shown rows.2,
    ))
