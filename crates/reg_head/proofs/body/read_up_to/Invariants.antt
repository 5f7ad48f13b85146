use Rattle.std.proofs.Common.{◌≡◌, ◌-◌, vec_len}
use Rattle.reg_head.specs.Pieces.{Grows}
use Rattle.reg_head.proofs.body.read_up_to.Given as goal

abbrev pub invariant-loop-piece : goal.invariant-loop-piece
invariant-loop-piece g l = record {
  grows : Grows (g.R.Read.remaining l.initial.reader) (g.R.Read.remaining l.reader)
      l.initial.bytes.items l.end l.bytes.items;
  unfailed : l.watch ≡ l.initial.watch;
}

abbrev pub decreases-loop-piece : goal.decreases-loop-piece
decreases-loop-piece g l = l.end - vec_len l.bytes
