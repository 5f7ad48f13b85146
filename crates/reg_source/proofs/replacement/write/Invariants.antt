use Rattle.std.proofs.Common.{◌≡◌, ◌++◌, length, take}
use Rattle.reg_source.specs.Disk.{begins}
use Rattle.reg_source.specs.Hashed.{FeedsTaken}
use Rattle.reg_source.specs.Names.{names_by}
use Rattle.reg_source.proofs.Feeding.{taken_none}
use Rattle.reg_source.proofs.replacement.write.Given as goal

abbrev pub invariant-loop-draft : goal.invariant-loop-draft
invariant-loop-draft g l = record {
  named : g.D.Disk.Tells → g.D.Disk.named l.draft ≡ (names_by l.fn.names).beside;
  whole : g.D.Disk.Tells
      → g.D.Disk.written l.draft ++ g.P.Portions.rest l.bytes
      ≡ take l.fn.same (g.D.Disk.held l.fn.disk (names_by l.fn.names).place)
      ++ (l.fn.gathered.items ++ g.P.Portions.rest l.fn.bytes);
  begun : g.D.Disk.Tells
      → g.D.Disk.done l.disk ≡ g.D.Disk.done l.fn.disk ++ begins (names_by l.fn.names);
  fed : FeedsTaken l.fn.hasher l.hasher (g.P.Portions.rest l.fn.bytes) (g.P.Portions.rest l.bytes);
}

abbrev pub decreases-loop-draft : goal.decreases-loop-draft
decreases-loop-draft g l = length (g.P.Portions.rest l.bytes)
