use Rattle.std.proofs.Common.{length}
use Rattle.std.specs.List.{AllByRecursion}
use Rattle.reg_tables.specs.Bare.{IsBareTable}
use Rattle.reg_tables.specs.Having.{FindsTable}
use Rattle.reg_tables.proofs.schema.finds_tables.Given as goal

abbrev pub invariant-tables : goal.invariant-tables
invariant-tables l =
    record {
      is : AllByRecursion (FindsTable l.schema) l.tables
          → AllByRecursion (FindsTable l.schema) l.fn.tables;
      bare : AllByRecursion IsBareTable l.fn.tables → AllByRecursion IsBareTable l.tables;
      all : AllByRecursion (FindsTable l.schema) l.fn.tables
          → AllByRecursion (FindsTable l.schema) l.tables;
    }

abbrev pub decreases-tables : goal.decreases-tables
decreases-tables l = length l.tables
