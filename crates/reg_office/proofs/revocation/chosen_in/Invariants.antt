use Rattle.std.proofs.Common.{◌≡◌, take}
use Rattle.std.specs.Prelude.{filter}
use Rattle.reg_office.specs.Revocation.{is_chosen}
use Rattle.reg_office.proofs.revocation.chosen_in.Given as goal

abbrev pub invariant-loop-row : goal.invariant-loop-row
invariant-loop-row l = l.chosen.items ≡ filter (is_chosen l.choice) (take l.row-index l.rows)
