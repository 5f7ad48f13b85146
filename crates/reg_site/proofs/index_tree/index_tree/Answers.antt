use Rattle.reg_site.specs.IndexTree.{index_tree}
use Rattle.reg_pages.proofs.Pieces.{joined, whole}
use Rattle.reg_site.proofs.index_tree.index_tree.Goals as goal

pub returns : goal.returns
unfolding index_tree
returns c =
    whole c.new-out.result.items c.new-out.ensures.items
    (joined c.in_ok-push.ensures
    (joined c.in_ok-push_json.ensures
    (joined (rw (c.as_str.ensures.value, c.in_ok-between.ensures) at c.in_ok-push-2.ensures)
    (joined c.in_ok-push_registers.ensures c.in_ok-push-3.ensures))))
