-- The experts to whom requests are assigned.
use Rattle.std.specs.Prelude.{ℕ, List}
use Rattle.std.specs.BTreeMap.{BTreeMap}
use Rattle.std.specs.FinSet.{FinSet}
use Rattle.reg_maps.specs.Maps.{text_cmp}
use Rattle.reg_maps.specs.Groups.{pair_map}
use Rattle.reg_core.specs.World.{RequestName, name_cmp, seat_cmp}

-- by request, and then by expert
abbrev pub Panels : Type 0
Panels = BTreeMap RequestName (BTreeMap (List ℕ) (Unit {0}))

-- the seats of all panels
abbrev pub seats : Panels → FinSet seat_cmp
seats panels = pair_map name_cmp text_cmp panels
