use Rattle.std.proofs.Common.{◌≡◌, ◌++◌, arith}
use Rattle.std.proofs.lemmas.Grind.{common_steps}
use Rattle.reg_pages.proofs.Pieces.{bytes}
use Rattle.reg_site.specs.IndexTree.{json_text}
use Rattle.reg_site.proofs.index_tree.push_json.Goals as goal

pub returns : goal.returns
returns c =
    let all : c.loop-b.out.items ≡ c.args.out.now.items ++ json_text c.args.text.now =
    grind (arith, common_steps) in
    bytes c.args.out.now.items c.loop-b.out.items (json_text c.args.text.now) all
