use Rattle.std.proofs.Common.{◌≡◌, suc, take, Ok}
use Rattle.sqlite.specs.Held.{state}
use Rattle.reg_core.specs.World.{World, without}
use Rattle.reg_keeper.specs.declared.keeper.Fault.{Fault}
use Rattle.reg_rows.specs.Calls.{Steps}
use Rattle.reg_content.proofs.caps.take_caps.Given as goal

abbrev pub invariant-loop-digest : goal.invariant-loop-digest
invariant-loop-digest g l =
    let old = state g.S.Store l.fn.tx.conn.now in
    let now = state g.S.Store l.tx.conn.now in
    record {
      same_reference : l.tx.conn.ghost_name ≡ l.fn.tx.conn.ghost_name;
      steps : Steps {T = Unit {0}} {E = Fault} old now (Ok tt)
          (λ (w : World). Unit {0})
          (λ (w : World). record w {
            caps = without (take (suc l.digest-index) l.fn.digests) w.caps;
          });
    }
