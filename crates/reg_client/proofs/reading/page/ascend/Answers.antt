use Rattle.std.proofs.Common.{rules, nat_lt}
use Rattle.std.proofs.lemmas.Bool.{MatchBool-at_true}
use Rattle.std.proofs.lemmas.List.Sorted.{answers_always}
use Rattle.reg_maps.proofs.Ascending.{increasing}
use Rattle.reg_core.specs.declared.entry.PageEntry.{PageEntry}
use Rattle.reg_client.proofs.reading.page.ascend.Goals as goal

pub returns : goal.returns
returns c sorted =
    let each = c.is_sorted_by.ensures.cases (λ x y. nat_lt x.value y.value)
    (answers_always _ _ _ (λ f a r g called. search rules)) in
    increasing (λ (e : PageEntry). e.value) c.args.entries.now (MatchBool-at_true _ _ sorted each)
