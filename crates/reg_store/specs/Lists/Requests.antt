-- Requests.
use Rattle.std.specs.Prelude.{ℕ, List}
use Rattle.std.specs.BTreeMap.{BTreeMap}
use Rattle.reg_core.specs.declared.request.Case.{Case}

-- by account, and then by reference
abbrev pub Requests : Type 0
Requests = BTreeMap (List ℕ) (BTreeMap (List ℕ) Case)
