use Rattle.std.proofs.Common.{rules, nat_lt}
use Rattle.std.proofs.lemmas.List.Sorted.{answers_always}
use Rattle.reg_decisions.proofs.RowsAscend.{values_ascend-from_answer}
use Rattle.reg_decisions.proofs.checking.values_ascend.Goals as goal

pub returns : goal.returns
returns c =
    let answer =
    c.is_sorted_by.ensures.cases nat_lt
    (answers_always _ _ _ (λ f a r g called. search rules)) in
    values_ascend-from_answer c.args.values.now c.is_sorted_by.result answer
