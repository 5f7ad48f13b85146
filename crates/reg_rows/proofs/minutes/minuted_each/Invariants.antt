use Rattle.std.proofs.Common.{◌≡◌, Ok, map}
use Rattle.sqlite.specs.Held.{state}
use Rattle.reg_keeper.specs.declared.keeper.Fault.{Fault}
use Rattle.reg_rows.specs.Calls.{LooksIn}
use Rattle.reg_rows.proofs.minutes.minuted_each.Given as goal

abbrev pub invariant-loop-request : goal.invariant-loop-request
invariant-loop-request g l =
    LooksIn {E = Fault} (state g.S.Store l.fn.conn) (state g.S.Store l.conn) (Ok (tt {0}))
    (λ p done. l.rows.items ≡ map (g.T.Minuted.minuted p) l.yielded)
