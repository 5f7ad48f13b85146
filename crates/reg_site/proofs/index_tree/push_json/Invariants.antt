use Rattle.std.proofs.Common.{◌≡◌, ◌++◌, take}
use Rattle.reg_site.specs.IndexTree.{json_text}
use Rattle.reg_site.proofs.index_tree.push_json.Given as goal

abbrev pub invariant-loop-b : goal.invariant-loop-b
invariant-loop-b l = l.out.items ≡ l.fn.out.items ++ json_text (take l.b-index l.text)
