use Rattle.std.proofs.Common.{◌≡◌, Ok, sym, ap, ◌∙◌, option_map, rules}
use Rattle.sqlite.specs.Held.{state}
use Rattle.reg_core.specs.Queue.{queue_row}
use Rattle.reg_core.specs.World.{RequestName}
use Rattle.reg_statements.specs.Content.{world_in}
use Rattle.reg_keeper.specs.declared.keeper.Fault.{Fault}
use Rattle.reg_rows.specs.Calls.{Looks}
use Rattle.reg_rows.specs.Seats.{assigned_to}
use Rattle.reg_rows.proofs.Looking.{looks, looks_then}
use Rattle.reg_rows.proofs.QueueRows.{is_assigned, not_assigned}
use Rattle.reg_content.proofs.reviews.queue_one.Goals as goal

pub returns-then-not-branch : goal.returns-then-not-branch
returns-then-not-branch g c =
    let name : RequestName = (c.args.account.now, c.args.reference.now) in
    let seat = c.in_ok-is_queued.ensures in
    looks c.requires seat.keeping.idle seat.endures seat.stays (λ h.
    sym (ap (option_map (queue_row name))
    (not_assigned (world_in (state g.S.Store c.args.conn.now)) c.args.expert.now name
    (sym (seat.value h) ∙ c.if-not-branch.true))))

pub returns : goal.returns
returns g c =
    let name : RequestName = (c.args.account.now, c.args.reference.now) in
    let expert = c.args.expert.now in
    let assigned : Looks {E = Fault} (state g.S.Store c.is_queued.new.conn)
    (state g.S.Store c.own_one.new.conn) (Ok c.map.result)
    (λ w row. row ≡ option_map (queue_row name) (assigned_to expert w name)) = search rules in
    looks_then c.in_ok-is_queued.ensures assigned (λ w seat is.
    is ∙ ap (option_map (queue_row name))
    (sym (is_assigned w expert name (sym seat ∙ c.if-not-branch.false))))
