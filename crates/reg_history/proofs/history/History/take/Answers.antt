use Rattle.std.proofs.Common.{◌≡◌, ◌==◌, true, false, List, length, ◌++◌, rules}
use Rattle.reg_changes.proofs.Replayed.{handed_on}
use Rattle.reg_changes.specs.declared.change.HistoryRecord.{HistoryRecord}
use Rattle.reg_history.specs.Chain.{chained}
use Rattle.reg_history.specs.History.{IsHistory, TellsWrong}
use Rattle.reg_history.proofs.Beginnings.{tells_wrong}
use Rattle.reg_history.proofs.Histories.{nothing_left, something_left, takes_all}
use Rattle.reg_history.proofs.history.History.take.Goals as goal

pub returns-clause-history : goal.returns-clause-history
returns-clause-history c = λ records is.
    let none : (length c.loop-rest.rest.now == 0) ≡ true = search rules in
    takes_all c.loop-rest.self records c.args.text.now c.loop-rest.rest.now
    (c.loop-rest.invariant records is).0 (nothing_left c.loop-rest.rest.now none)

pub returns-in_err-rest-clause-wrong : goal.returns-in_err-rest-clause-wrong
returns-in_err-rest-clause-wrong c =
    handed_on
    (λ why. (records : List HistoryRecord) → IsHistory c.args.self.now records
    → TellsWrong ((chained records).text ++ c.args.text.now) why)
    c.from_residual-in_err-rest.result c.in_err-rest.field-0.0 c.from_residual-in_err-rest.ensures.1
    (λ records is.
    let so = c.loop-rest.invariant records is in
    let some : (length c.loop-rest.rest.now == 0) ≡ false = search rules in
    tells_wrong c.loop-rest.self records c.args.text.now c.loop-rest.rest.now c.in_err-rest.field-0.0 so.0
    (something_left c.loop-rest.rest.now some)
    (c.in_err-rest.ensures.wrong so.0.more so.0.grown so.1))
