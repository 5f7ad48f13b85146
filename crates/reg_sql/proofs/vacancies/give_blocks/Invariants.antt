use Rattle.std.proofs.Common.{◌≡◌, ◌++◌, List, length}
use Rattle.reg_core.specs.declared.holding.Listed.{Listed}
use Rattle.reg_sql.proofs.Giving.{AreGiven}
use Rattle.reg_sql.proofs.vacancies.give_blocks.Given as goal

abbrev pub invariant-rows : goal.invariant-rows
invariant-rows l =
    (gone : List Listed) × (l.fn.blocks.items ≡ l.blocks.items ++ gone)
    × AreGiven l.fn.vacancies l.vacancies l.fn.blocks.items gone

abbrev pub decreases-rows : goal.decreases-rows
decreases-rows l = length l.blocks.items
