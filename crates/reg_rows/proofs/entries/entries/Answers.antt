use Rattle.std.proofs.Common.{ap, map, ◌∙◌}
use Rattle.reg_rows.specs.Marks.{entry_marked}
use Rattle.reg_rows.proofs.Looking.{looks_joined}
use Rattle.reg_rows.proofs.MarkedRows.{entries_listed}
use Rattle.reg_rows.proofs.Statements.{lists_entries}
use Rattle.reg_rows.proofs.entries.entries.Goals as goal

pub returns-then-values_ascend-clause-rows : goal.returns-then-values_ascend-clause-rows
returns-then-values_ascend-clause-rows g c =
    let registry = c.args.registry.now in
    looks_joined c.requires c.in_ok-rows.ensures.rows c.in_ok-rows-2.ensures (λ p ties is marked.
    c.from_vec.ensures ∙ marked
    ∙ ap (map (entry_marked p registry)) (is _ (rw c.name_value.ensures (lists_entries registry)))
    ∙ entries_listed p ties registry)
