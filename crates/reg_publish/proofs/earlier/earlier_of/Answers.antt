use Rattle.reg_publish.proofs.Causes.{unread_from}
use Rattle.reg_publish.proofs.earlier.earlier_of.Goals as goal

pub returns-in_err-history-in-Some-clause-why : goal.returns-in_err-history-in-Some-clause-why
returns-in_err-history-in-Some-clause-why c =
    unread_from c.args.changes (λ v. v.items) c.in-Some.text c.as_slice.result.now
    c.in_err-history-in-Some.field-0.0 c.from_residual.result c.in-Some.is
    c.as_slice.ensures.value c.in_err-history-in-Some.ensures.wrong
    c.from_residual.ensures.1
