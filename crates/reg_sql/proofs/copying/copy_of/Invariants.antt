use Rattle.std.specs.Prelude.{IsTrue}
use Rattle.sqlite_disk.specs.Memory.{memory_is_usable}
use Rattle.reg_sql.proofs.copying.copy_of.Given as goal

abbrev pub invariant-reads : goal.invariant-reads
invariant-reads g l = IsTrue (memory_is_usable l.copy)
