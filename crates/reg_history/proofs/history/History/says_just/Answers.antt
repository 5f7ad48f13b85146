use Rattle.std.proofs.Common.{List, sym, ap, ◌∙◌}
use Rattle.std.specs.Prelude.{slice_get}
use Rattle.reg_history.specs.Chain.{says}
use Rattle.reg_changes.specs.declared.change.HistoryRecord.{HistoryRecord}
use Rattle.reg_history.specs.History.{IsHistory}
use Rattle.reg_history.specs.Unlike.{TellsUnlike, unlike_of}
use Rattle.reg_history.proofs.Histories.{first-none, says_just}
use Rattle.reg_changes.proofs.Replayed.{handed_on}
use Rattle.reg_history.proofs.UnlikeHistories.{unlike_by_loss, unlike_by_news}
use Rattle.reg_history.proofs.history.History.says_just.Goals as goal

pub returns-in-None-clause-says : goal.returns-in-None-clause-says
returns-in-None-clause-says c = λ records is s.
    says_just c.args.self records c.args.facts.now c.in_ok-changes.changes.items is
    c.in_ok-changes.ensures.replayed
    (sym c.deref.ensures.value ∙ first-none c.deref.result.now c.in-None.ensures.value) s

pub returns-in_err-changes-clause-unlike : goal.returns-in_err-changes-clause-unlike
returns-in_err-changes-clause-unlike c =
    handed_on
    (λ why. (records : List HistoryRecord) → IsHistory c.args.self records
    → TellsUnlike (says records) c.args.facts.now why)
    c.from_residual.result (unlike_of c.in_err-changes.field-0.0) c.from_residual.ensures.1
    (λ records is.
    unlike_by_loss c.args.self records c.args.facts.now c.in_err-changes.field-0.0 is
    c.in_err-changes.ensures.lost)

pub returns-clause-unlike : goal.returns-clause-unlike
returns-clause-unlike c = λ records is.
    unlike_by_news c.args.self records c.args.facts.now c.in_ok-changes.changes.items
    c.in-Some.change.now c.in_ok-subject-in-Some.field-0 is c.in_ok-changes.ensures.changes
    (c.in-Some.ensures.value ∙ ap (λ cs. slice_get cs 0) c.deref.ensures.value)
    c.in_ok-subject-in-Some.ensures
