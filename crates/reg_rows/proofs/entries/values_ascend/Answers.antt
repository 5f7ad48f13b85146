use Rattle.std.proofs.Common.{rules, nat_lt}
use Rattle.std.proofs.lemmas.Bool.{MatchBool-at_true}
use Rattle.std.proofs.lemmas.List.Sorted.{answers_always}
use Rattle.reg_rows.proofs.EntryRowsAscending.{increasing}
use Rattle.reg_rows.proofs.entries.values_ascend.Goals as goal

pub returns : goal.returns
returns c sorted =
    let each = c.is_sorted_by.ensures.cases (λ x y. nat_lt x.value y.value)
    (answers_always _ _ _ (λ f a r g called. search rules)) in
    increasing c.args.entries.now (MatchBool-at_true _ _ sorted each)
