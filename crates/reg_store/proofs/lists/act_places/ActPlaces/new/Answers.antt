use Rattle.std.proofs.Common.{ap, ◌∙◌, arith}
use Rattle.std.specs.FinMap.{from_entries, get, get-empty}
use Rattle.reg_maps.specs.Groups.{rows_in}
use Rattle.reg_core.specs.World.{name_cmp}
use Rattle.reg_store.specs.Maps.{items_of}
use Rattle.reg_store.proofs.lists.act_places.ActPlaces.new.Goals as goal

pub returns : goal.returns
returns c = record {
  within = omega arith;
  found = λ name.
      ap (λ es. items_of (get (from_entries {R = name_cmp} (rows_in es)) name)) c.new.ensures.empty
      ∙ ap items_of (get-empty name_cmp name);
}
