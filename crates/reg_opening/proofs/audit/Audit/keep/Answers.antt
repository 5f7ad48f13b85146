use Rattle.std.proofs.lemmas.Result.{on_err_weaker, on_ok_weaker}
use Rattle.reg_core.proofs.KeyOrders.{link_keys}
use Rattle.reg_maps.proofs.MapLaws.{text_keys}
use Rattle.reg_opening.proofs.KeptRows.{keeps_advice, keeps_assignment, keeps_minute, keeps_requests_still, keeps_still, key_put, row_put}
use Rattle.reg_opening.proofs.audit.Audit.keep.Goals as goal

pub returns-in-Cap-clause-ok : goal.returns-in-Cap-clause-ok
returns-in-Cap-clause-ok g c =
    on_ok_weaker c.add_key.result
    (λ put w keeps. rw c.in-Cap.is (λ turn new fits.
    assumption (
      key_put text_keys w.caps c.in-Cap.digest c.in-Cap.field-1 c.args.self.now.caps
          c.add_key.new.keys put keeps.caps,
      keeps,
    )))
    c.add_key.ensures.ok

pub returns-in-Registry-clause-ok : goal.returns-in-Registry-clause-ok
returns-in-Registry-clause-ok g c =
    on_ok_weaker c.set_row.result
    (λ put w keeps. rw c.in-Registry.is (λ turn new fits.
    assumption (
      row_put text_keys w.registries c.in-Registry.name c.in-Registry.table
          c.args.self.now.registries c.set_row.new.map put keeps.registries,
      keeps,
    )))
    c.set_row.ensures.ok

pub returns-in-Entry-clause-ok : goal.returns-in-Entry-clause-ok
returns-in-Entry-clause-ok g c =
    on_ok_weaker c.keep_entry.result
    (λ kept w keeps. rw c.in-Entry.is (λ turn new fits. kept w keeps))
    c.keep_entry.ensures.ok

pub returns-in-Hold-clause-ok : goal.returns-in-Hold-clause-ok
returns-in-Hold-clause-ok g c =
    on_ok_weaker c.keep_hold.result
    (λ kept w keeps. rw c.in-Hold.is (λ turn new fits. kept w keeps))
    c.keep_hold.ensures.ok

pub returns-in-Prefix-clause-ok : goal.returns-in-Prefix-clause-ok
returns-in-Prefix-clause-ok g c =
    on_ok_weaker c.keep_prefix.result
    (λ kept w keeps. rw c.in-Prefix.is (λ turn new fits. kept w keeps))
    c.keep_prefix.ensures.ok

pub returns-in-Block-clause-ok : goal.returns-in-Block-clause-ok
returns-in-Block-clause-ok g c =
    on_ok_weaker c.keep_block.result
    (λ kept w keeps. rw c.in-Block.is (λ turn new fits. kept w keeps fits.0))
    c.keep_block.ensures.ok

pub returns-in-Request-clause-ok : goal.returns-in-Request-clause-ok
returns-in-Request-clause-ok g c =
    on_ok_weaker c.keep_request.result
    (λ kept w keeps. rw c.in-Request.is (λ turn new fits. kept w keeps))
    c.keep_request.ensures.ok

pub returns-in-Minute-clause-ok : goal.returns-in-Minute-clause-ok
returns-in-Minute-clause-ok g c =
    on_ok_weaker c.set_row-in-Minute.result
    (λ put w keeps. rw c.in-Minute.is (λ turn new fits.
    keeps_minute c.args.self.now w keeps c.set_row-in-Minute.new.map c.in-Minute.account
    c.in-Minute.reference c.in-Minute.field-2 put new))
    c.set_row-in-Minute.ensures.ok

pub returns-in-Seat-clause-ok : goal.returns-in-Seat-clause-ok
returns-in-Seat-clause-ok g c =
    on_ok_weaker c.set_row-in-Seat.result
    (λ put w keeps. rw c.in-Seat.is (λ turn new fits.
    keeps_assignment c.args.self.now w keeps c.set_row-in-Seat.new.map c.in-Seat.account
    c.in-Seat.reference c.in-Seat.expert turn put))
    c.set_row-in-Seat.ensures.ok

pub returns-in-Advice-clause-ok : goal.returns-in-Advice-clause-ok
returns-in-Advice-clause-ok g c =
    on_ok_weaker c.set_row-in-Advice.result
    (λ put w keeps. rw c.in-Advice.is (λ turn new fits.
    keeps_advice c.args.self.now w keeps c.set_row-in-Advice.new.map c.in-Advice.account
    c.in-Advice.reference c.in-Advice.expert c.in-Advice.field-3 fits put))
    c.set_row-in-Advice.ensures.ok

pub returns-clause-ok : goal.returns-clause-ok
returns-clause-ok g c =
    on_ok_weaker c.add_key-in-Link.result
    (λ put w keeps. rw c.in-Link.is (λ turn new fits.
    assumption (
      key_put link_keys w.agents (c.in-Link.principal, c.in-Link.agent) tt c.args.self.now.links
          c.add_key-in-Link.new.keys put keeps.links,
      keeps,
    )))
    c.add_key-in-Link.ensures.ok

pub returns-in-Minute-clause-err : goal.returns-in-Minute-clause-err
returns-in-Minute-clause-err g c =
    on_err_weaker c.set_row-in-Minute.result
    (λ same w keeps. keeps_requests_still c.args.self.now w keeps c.set_row-in-Minute.new.map same)
    c.set_row-in-Minute.ensures.err

pub returns-in-Seat-clause-err : goal.returns-in-Seat-clause-err
returns-in-Seat-clause-err g c =
    on_err_weaker c.set_row-in-Seat.result
    (λ same w keeps.
    keeps_still c.args.self.now w keeps c.set_row-in-Seat.new.map same)
    c.set_row-in-Seat.ensures.err

pub returns-in-Advice-clause-err : goal.returns-in-Advice-clause-err
returns-in-Advice-clause-err g c =
    on_err_weaker c.set_row-in-Advice.result
    (λ same w keeps. keeps_still c.args.self.now w keeps c.set_row-in-Advice.new.map same)
    c.set_row-in-Advice.ensures.err
