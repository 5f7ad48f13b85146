use Rattle.std.proofs.Common.{lit<, rules}
use Rattle.std.proofs.lemmas.Iterator.Search.{position_from_yields_List}
use Rattle.std.proofs.lemmas.Iterator.Splits.{YieldsList-from_str_split}
use Rattle.reg_parse.specs.Path.{stands_for}
use Rattle.reg_parse.proofs.path.place_of.Goals as goal

pub returns : goal.returns
returns c =
    position_from_yields_List (stands_for c.args.part) _ _ _ c.position.ensures.ran
    (YieldsList-from_str_split 47 c.args.pattern.now (lit< tt) c.split.ensures.text
    c.split.ensures.has_more c.split.ensures.pattern)
    (λ x b q k. search rules)
