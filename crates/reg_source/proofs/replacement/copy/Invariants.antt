use Rattle.std.proofs.Common.{◌≡◌}
use Rattle.reg_source.proofs.Copying.{IsCopying}
use Rattle.reg_source.proofs.replacement.copy.Given as goal

abbrev pub invariant-loop-left : goal.invariant-loop-left
invariant-loop-left g l = record {
  named : g.D.Disk.Tells → g.D.Disk.named l.draft ≡ g.D.Disk.named l.fn.draft;
  copying : g.D.Disk.Tells
      → IsCopying (g.D.Reader.Read.remaining l.fn.reader)
      (g.D.Reader.Read.remaining l.reader) (g.D.Disk.written l.fn.draft)
      (g.D.Disk.written l.draft) l.fn.count l.left;
}

abbrev pub decreases-loop-left : goal.decreases-loop-left
decreases-loop-left g l = l.left
