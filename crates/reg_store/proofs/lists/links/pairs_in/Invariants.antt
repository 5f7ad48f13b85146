use Rattle.std.proofs.Common.{◌≡◌, map}
use Rattle.std.specs.Prelude.{All}
use Rattle.std.specs.BTreeMap.{IsOrdered}
use Rattle.std.specs.Map.Iter.{deref_pair}
use Rattle.reg_maps.specs.Maps.{text_cmp}
use Rattle.reg_maps.specs.Groups.{rows_in}
use Rattle.reg_core.specs.Link.{link_row}
use Rattle.reg_store.proofs.lists.links.pairs_in.Given as goal

abbrev pub invariant-loop-first : goal.invariant-loop-first
invariant-loop-first l = record {
  listed : l.rows.items ≡ map (λ e. link_row e.0) (rows_in (map deref_pair l.yielded));
  ordered : All (λ e. IsOrdered text_cmp e.1) (map deref_pair l.yielded);
}
