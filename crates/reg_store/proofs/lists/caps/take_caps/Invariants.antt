use Rattle.std.proofs.Common.{◌≡◌, take}
use Rattle.reg_maps.specs.Maps.{text_cmp, finite_map}
use Rattle.reg_core.specs.World.{without}
use Rattle.reg_store.proofs.lists.caps.take_caps.Given as goal

abbrev pub invariant-loop-digest : goal.invariant-loop-digest
invariant-loop-digest l =
    finite_map text_cmp l.caps
    ≡ without (take l.digest-index l.digests) (finite_map text_cmp l.fn.caps)
