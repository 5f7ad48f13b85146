use Rattle.std.proofs.Common.{◌∙◌}
use Rattle.std.proofs.lemmas.Result.{IfOk-weaker}
use Rattle.reg_rows.proofs.MarkedRows.{told_alike}
use Rattle.reg_rows.proofs.holds.with_marks.Goals as goal

pub returns : goal.returns
returns c =
    IfOk-weaker c.marked_among.result _ _ (λ marked is.
    is ∙ told_alike c.args.marks.items c.in_ok-values.values c.in_ok-values.ensures
    c.args.entries.items) c.marked_among.ensures
