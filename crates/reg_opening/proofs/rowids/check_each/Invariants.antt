use Rattle.std.proofs.Common.{ℕ, List, length, map}
use Rattle.std.specs.List.{AllByRecursion}
use Rattle.sqlite.specs.Held.{state}
use Rattle.reg_tables.specs.Connection.{Endures, IsIdle, Stays, Works}
use Rattle.reg_tables.specs.Kinds.{IsQuery}
use Rattle.reg_tables.specs.Selecting.{BeginsWith}
use Rattle.reg_opening.specs.Rowids.{IsAmong, KeysEach}
use Rattle.reg_opening.proofs.rowids.check_each.Given as goal

abbrev pub invariant-texts : goal.invariant-texts
invariant-texts g l =
    let old = state g.S.Store l.fn.conn in
    let now = state g.S.Store l.conn in
    record {
      idle : IsIdle now;
      endures : Endures old now;
      stays : Stays old now;
      plain : AllByRecursion IsQuery (map (λ text. text.now) l.texts);
      among : (sql : List ℕ) → IsAmong (map (λ text. text.now) l.texts) sql
          → IsAmong (map (λ text. text.now) l.fn.texts) sql;
      keyed : Works now → BeginsWith 4 old.now.schema → KeysEach (map (λ text. text.now) l.texts) old.now.trees
          → KeysEach (map (λ text. text.now) l.fn.texts) old.now.trees;
    }

abbrev pub decreases-texts : goal.decreases-texts
decreases-texts g l = length l.texts
