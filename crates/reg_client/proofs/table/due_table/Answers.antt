use Rattle.std.proofs.Common.{ap, ◌∙◌, rules}
use Rattle.std.proofs.lemmas.Result.{IfOk-weaker}
use Rattle.reg_client.specs.Table.{due_text}
use Rattle.reg_client.proofs.Ordered.{in_due_order}
use Rattle.reg_client.proofs.table.due_table.Goals as goal

pub returns : goal.returns
returns c =
    let sorted = c.in_ok-sort_by_key.ensures in
    let items = c.sort_by_key.new.self.items in
    IfOk-weaker c.table_of.result _ _
    (λ text is. record {
      ordered = items;
      same = sorted.permutation;
      in_order = in_due_order items sorted.sorted (λ a r q k. search rules);
      printed = is ∙ ap due_text c.as_slice.ensures.value;
    })
    c.table_of.ensures
