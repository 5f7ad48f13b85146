use Rattle.std.proofs.Common.{ℕ, List, [], sym, subst}
use Rattle.reg_history.specs.History.{IsHistoryOf, TellsWrong}
use Rattle.reg_changes.proofs.Replayed.{handed_on}
use Rattle.reg_history.proofs.history.read.Goals as goal

pub returns-clause-history : goal.returns-clause-history
returns-clause-history c =
    let Of : List ℕ → Type 0 = λ t. IsHistoryOf c.take.new.self t in
    subst Of (sym c.in-Some.ensures.leaves) (c.in_ok-take.ensures.history [] c.in_ok-history.ensures)

pub returns-in_err-take-clause-wrong : goal.returns-in_err-take-clause-wrong
returns-in_err-take-clause-wrong c =
    let Tells : List ℕ → Type 0 = λ t. TellsWrong t c.in_err-take.field-0.0 in
    handed_on (TellsWrong c.args.text.now) c.from_residual-in_err-take.result c.in_err-take.field-0.0
    c.from_residual-in_err-take.ensures.1
    (subst Tells (sym c.in-Some.ensures.leaves) (c.in_err-take.ensures.wrong [] c.in_ok-history.ensures))
