use Rattle.std.proofs.Common.{◌≡◌, List, [], refl, sym, subst, ◌∙◌, append-nil}
use Rattle.reg_history.specs.Chain.{chained, says}
use Rattle.reg_history.specs.History.{IsHistory}
use Rattle.reg_history.specs.Recording.{Aim, Awaits}
use Rattle.reg_changes.specs.declared.change.Fact.{Fact}
use Rattle.reg_changes.specs.declared.change.HistoryRecord.{HistoryRecord}
use Rattle.reg_publish.specs.Faults.{IsLostBy, unrecorded_as}
use Rattle.reg_publish.specs.Told.{facts_told}
use Rattle.reg_publish.specs.declared.faults.PublishFault.{PublishFault}
use Rattle.reg_publish.proofs.Causes.{handed_on, lost_by}
use Rattle.reg_publish.proofs.publishing.go_on.Goals as goal

pub returns-clause-goes_on : goal.returns-clause-goes_on
returns-clause-goes_on c = λ records is same.
    let aim : Aim =
    record { records = records; moment = c.args.moment; facts = facts_told c.args.told.now } in
    let To : List Fact → Type 0 = λ facts. Awaits aim c.in_ok-recorder.recorder facts in
    c.in_ok-end.ensures.goes_on aim
    (c.in_ok-tell.ensures.goes_on aim []
    (subst To (sym (append-nil aim.facts))
    (c.in_ok-recorder.ensures aim (record { history = is; text = same ∙ sym c.reserve.ensures.items; moment = refl }))))

pub returns-in_err-end-clause-lost : goal.returns-in_err-end-clause-lost
returns-in_err-end-clause-lost c =
    let facts = facts_told c.args.told.now in
    let why = c.in_err-end.field-0.0 in
    let Tells : PublishFault → Type 0 = λ why. (records : List HistoryRecord) → IsHistory c.args.history records
    → (chained records).text ≡ c.args.text.items → IsLostBy (says records) facts why in
    handed_on Tells c.from_residual-in_err-end.result (unrecorded_as why)
    c.from_residual-in_err-end.ensures.1
    (λ records is same.
    let aim : Aim = record { records = records; moment = c.args.moment; facts = facts } in
    let To : List Fact → Type 0 = λ facts. Awaits aim c.in_ok-recorder.recorder facts in
    lost_by (says records) facts why
    (c.in_err-end.ensures.lost aim
    (c.in_ok-tell.ensures.goes_on aim []
    (subst To (sym (append-nil aim.facts))
    (c.in_ok-recorder.ensures aim (record { history = is; text = same ∙ sym c.reserve.ensures.items; moment = refl }))))))
