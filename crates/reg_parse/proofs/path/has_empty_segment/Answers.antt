use Rattle.std.proofs.Common.{lit<, rules}
use Rattle.std.proofs.lemmas.Iterator.Search.{any_from_yields_List}
use Rattle.std.proofs.lemmas.Iterator.Adapters.{YieldsList-from_skip}
use Rattle.std.proofs.lemmas.Iterator.Splits.{YieldsList-from_str_split}
use Rattle.reg_parse.specs.Path.{is_empty}
use Rattle.reg_parse.proofs.path.has_empty_segment.Goals as goal

pub returns : goal.returns
returns c =
    any_from_yields_List is_empty _ _ _ c.any.ensures.ran
    (YieldsList-from_skip 1 (YieldsList-from_str_split 47 c.args.path.now (lit< tt) (cc) (cc) (cc))
    (cc))
    (λ x b q k. search rules)
