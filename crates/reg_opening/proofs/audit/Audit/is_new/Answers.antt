use Rattle.std.proofs.Common.{false, ap, is_some, unwrap_or, ◌∙◌}
use Rattle.std.specs.FinMap.{get}
use Rattle.reg_core.specs.MayBeGiven.{place_of}
use Rattle.reg_core.specs.World.{Place, RequestName}
use Rattle.reg_opening.specs.Audits.{account_of, awaits_minute, standing_of}
use Rattle.reg_opening.specs.Requests.{is_holdable}
use Rattle.reg_opening.specs.Rows.{name_of}
use Rattle.reg_opening.proofs.KeptFits.{fails, holdable-standing, missing, new_advice, new_assignment, same_truth, there_as, unwrap-awaits}
use Rattle.reg_opening.proofs.audit.Audit.is_new.Goals as goal

pub returns-in-Cap : goal.returns-in-Cap
returns-in-Cap c = λ w keeps kept.
    rw c.in-Cap.is (missing _ _ (c.contains.ensures ∙ keeps.caps c.in-Cap.digest))

pub returns-in-Registry : goal.returns-in-Registry
returns-in-Registry c = λ w keeps kept.
    rw c.in-Registry.is
    (missing _ _ (c.contains_key.ensures ∙ ap is_some (keeps.registries c.in-Registry.name)))

pub returns-in-Entry : goal.returns-in-Entry
returns-in-Entry c = λ w keeps kept.
    rw c.in-Entry.is
    (missing _ _ (c.contains_key-in-Entry.ensures
    ∙ there_as standing_of _ _ (keeps.standings (place_of c.in-Entry.entry))))

pub returns-in-Hold : goal.returns-in-Hold
returns-in-Hold c = λ w keeps kept.
    let place : Place = (c.in-Hold.registry, c.in-Hold.value) in
    rw c.in-Hold.is
    (same_truth _ _ (c.is_holdable.ensures
    ∙ ap is_holdable (c.get.ensures.value ∙ keeps.standings place)
    ∙ holdable-standing (get w.entries place)))

pub returns-in-Prefix : goal.returns-in-Prefix
returns-in-Prefix c = λ w keeps kept.
    rw c.in-Prefix.is (fails _ _ (c.contains-in-Prefix.ensures ∙ keeps.prefixes c.in-Prefix.prefix))

pub returns-in-Block : goal.returns-in-Block
returns-in-Block c = λ w keeps kept.
    rw c.in-Block.is
    (missing _ _ (c.contains_key-in-Block.ensures
    ∙ there_as account_of _ _ (keeps.holders c.in-Block.holding.block)))

pub returns-in-Request : goal.returns-in-Request
returns-in-Request c = λ w keeps kept.
    rw c.in-Request.is
    (missing _ _ (c.contains_key-in-Request.ensures
    ∙ there_as awaits_minute _ _ (keeps.requests (name_of c.in-Request.request))))

pub returns-in-Minute : goal.returns-in-Minute
returns-in-Minute c = λ w keeps kept.
    let name : RequestName = (c.in-Minute.account, c.in-Minute.reference) in
    rw c.in-Minute.is
    (same_truth _ _ (c.awaits_minute.ensures ∙ ap (λ o. unwrap_or o false) (keeps.requests name)
    ∙ unwrap-awaits (get w.requests name)))

pub returns-in-Seat : goal.returns-in-Seat
returns-in-Seat c = λ w keeps kept.
    rw c.in-Seat.is
    (new_assignment c.args.self.now w keeps c.in-Seat.account c.in-Seat.reference
    c.in-Seat.expert c.advised.result c.advised.ensures c.is_none.result c.is_none.ensures)

pub returns-in-Advice : goal.returns-in-Advice
returns-in-Advice c = λ w keeps kept.
    rw c.in-Advice.is
    (new_advice c.args.self.now w keeps c.in-Advice.account c.in-Advice.reference
    c.in-Advice.expert c.advised-in-Advice.result c.advised-in-Advice.ensures kept
    c.in-Advice.field-3 c.unwrap_or.result c.unwrap_or.ensures)

pub returns-in-Link : goal.returns-in-Link
returns-in-Link c = λ w keeps kept.
    rw c.in-Link.is
    (fails _ _ (c.contains-in-Link.ensures ∙ keeps.links (c.in-Link.principal, c.in-Link.agent)))
