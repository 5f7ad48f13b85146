use Rattle.std.proofs.Common.{◌≡◌, Ok, map}
use Rattle.sqlite.specs.Held.{state}
use Rattle.reg_keeper.specs.declared.keeper.Fault.{Fault}
use Rattle.reg_rows.specs.Calls.{Looks}
use Rattle.reg_rows.specs.Seats.{filed}
use Rattle.reg_content.proofs.pending.filed_each.Given as goal

abbrev pub invariant-loop-request : goal.invariant-loop-request
invariant-loop-request g l =
    Looks {E = Fault} (state g.S.Store l.fn.conn) (state g.S.Store l.conn) (Ok (tt {0}))
    (λ w done. l.files.items ≡ map (filed w) l.yielded)
