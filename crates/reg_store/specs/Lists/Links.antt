-- The links that are kept.
use Rattle.std.specs.FinSet.{FinSet}
use Rattle.reg_core.specs.World.{link_cmp}
use Rattle.reg_store.specs.Lists.Pairs.{all_pairs}
use Rattle.reg_store.specs.declared.lists.links.Links.{Links}

abbrev pub links_held : Links → FinSet link_cmp
links_held l = all_pairs l.by_first
