use Rattle.std.proofs.Common.{◌≡◌, false, length}
use Rattle.std.specs.List.{AllByRecursion}
use Rattle.sqlite.specs.Table.{Table}
use Rattle.sqlite_catalog.specs.Change.{is_used}
use Rattle.reg_tables.proofs.schema.are_free.Given as goal

abbrev pub invariant-tables : goal.invariant-tables
invariant-tables l =
    record {
      sure : AllByRecursion (λ (t : Table). is_used l.schema t.name ≡ false) l.tables
          → AllByRecursion (λ (t : Table). is_used l.schema t.name ≡ false) l.fn.tables;
      exact : AllByRecursion (λ (t : Table). is_used l.schema t.name ≡ false) l.fn.tables
          → AllByRecursion (λ (t : Table). is_used l.schema t.name ≡ false) l.tables;
    }

abbrev pub decreases-tables : goal.decreases-tables
decreases-tables l = length l.tables
