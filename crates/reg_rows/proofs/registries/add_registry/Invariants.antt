use Rattle.std.proofs.Common.{◌≡◌, take, None, Ok}
use Rattle.std.specs.FinMap.{get, insert}
use Rattle.sqlite.specs.Held.{state}
use Rattle.reg_core.specs.World.{World}
use Rattle.reg_keeper.specs.declared.keeper.Fault.{Fault}
use Rattle.reg_rows.specs.Calls.{Steps}
use Rattle.reg_rows.proofs.registries.add_registry.Given as goal

abbrev pub invariant-loop-range : goal.invariant-loop-range
invariant-loop-range g l =
    let old = state g.S.Store l.fn.tx.conn.now in
    let now = state g.S.Store l.tx.conn.now in
    record {
      same_reference : l.tx.conn.ghost_name ≡ l.fn.tx.conn.ghost_name;
      steps : Steps {T = Unit {0}} {E = Fault} old now (Ok tt)
          (λ (w : World). get w.registries l.fn.name ≡ None)
          (λ (w : World). record w {
            registries = insert w.registries l.fn.name
                (record { max = l.fn.table.max; ranges = take l.range-index l.fn.table.ranges });
          });
    }
