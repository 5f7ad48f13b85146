use Rattle.std.proofs.Common.{◌≡◌, length, map}
use Rattle.sqlite.specs.Held.{state}
use Rattle.reg_tables.proofs.MakeLemmas.{GoesOn}
use Rattle.reg_tables.proofs.make.make_each.Given as goal

abbrev pub invariant-texts : goal.invariant-texts
invariant-texts g l = record {
  same : l.tx.conn.ghost_name ≡ l.fn.tx.conn.ghost_name;
  on : GoesOn (map (λ text. text.now) l.fn.texts) (map (λ text. text.now) l.texts)
      (state g.S.Store l.fn.tx.conn.now) (state g.S.Store l.tx.conn.now);
}

abbrev pub decreases-texts : goal.decreases-texts
decreases-texts g l = length l.texts
