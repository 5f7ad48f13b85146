use Rattle.reg_sql.specs.Steady.{AreUnsteady}
use Rattle.reg_sql.proofs.steady.steady_copy.Given as goal

abbrev pub invariant-loop : goal.invariant-loop
invariant-loop g l = g.O.Original.Tells
    → AreUnsteady l.counter (g.O.Original.readings l.initial.original)
    (g.O.Original.readings l.original)
