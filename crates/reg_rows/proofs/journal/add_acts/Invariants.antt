use Rattle.std.proofs.Common.{◌≡◌, ◌+◌, ℕ, suc, take, length, Ok}
use Rattle.sqlite.specs.Held.{state}
use Rattle.reg_core.specs.Journal.{with_acts}
use Rattle.reg_core.specs.World.{World}
use Rattle.reg_keeper.specs.declared.keeper.Fault.{Fault}
use Rattle.reg_rows.specs.Calls.{Steps}
use Rattle.reg_rows.proofs.journal.add_acts.Given as goal

abbrev pub invariant-loop-act : goal.invariant-loop-act
invariant-loop-act g l =
    let old = state g.S.Store l.fn.tx.conn.now in
    let now = state g.S.Store l.tx.conn.now in
    record {
      same_reference : l.tx.conn.ghost_name ≡ l.fn.tx.conn.ghost_name;
      number : l.number ≡ l.fn.last + suc l.act-index;
      steps : Steps {T = ℕ} {E = Fault} old now (Ok l.number)
          (λ (w : World). l.fn.last ≡ length w.journal)
          (λ (w : World). record w {
            journal = with_acts (take (suc l.act-index) l.fn.acts) w.journal;
          });
    }
