use Rattle.std.proofs.Common.{◌≡◌, refl, subst, sym}
use Rattle.sqlite.specs.Held.{Held, state}
use Rattle.sqlite.specs.Steps.{over_memory}
use Rattle.sqlite_trees.specs.View.{doubt}
use Rattle.sqlite_trees.specs.declared.memory.MemStore.{MemStore}
use Rattle.reg_core.specs.World.{empty_world}
use Rattle.reg_tables.specs.Connection.{Holds, Works}
use Rattle.reg_statements.specs.Content.{world_in}
use Rattle.reg_sql.specs.Opening.{HasNoTables}
use Rattle.reg_sql.proofs.open.SqlKeeper+MemStore.in_memory.Goals as goal

-- memory neither doubts nor fails
always : (conn : Held MemStore) → Works (state over_memory conn)
unfolding doubt
always conn = record { clean = refl; is_open = refl }

pub returns-clause-empty : goal.returns-clause-empty
returns-clause-empty c =
    let founded = c.in_ok-beside.ensures in
    let works = always c.found.new.conn in
    let none : HasNoTables (state over_memory c.in_ok-conn.conn).now = c.in_ok-conn.ensures.2 in
    let holds : Holds (state over_memory c.found.new.conn) = record {
      works = works;
      tables = founded.alone works none;
    } in
    subst (λ conn. Holds (state over_memory conn)
    × (world_in (state over_memory conn) ≡ empty_world)) (sym c.new.ensures)
    (holds, (founded.empty holds).1)
