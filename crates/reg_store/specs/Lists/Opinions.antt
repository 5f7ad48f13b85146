-- The advice of experts.
use Rattle.std.specs.Prelude.{ℕ, List}
use Rattle.std.specs.BTreeMap.{BTreeMap}
use Rattle.reg_core.specs.World.{RequestName}
use Rattle.reg_core.specs.declared.advice.Advice.{Advice}

-- by request, and then by expert
abbrev pub Opinions : Type 0
Opinions = BTreeMap RequestName (BTreeMap (List ℕ) Advice)
