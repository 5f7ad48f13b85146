use Rattle.std.proofs.Common.{◌≡◌, ◌≤◌, ◌-◌, vec_len}
use Rattle.std.specs.Io.KnownBytes.{Consumes}
use Rattle.reg_head.specs.Head.{most_bytes}
use Rattle.reg_head.proofs.head.read_head.Given as goal

abbrev pub invariant-loop-spans : goal.invariant-loop-spans
invariant-loop-spans g l = record {
  read : Consumes (g.R.Read.remaining l.initial.reader) (g.R.Read.remaining l.reader) l.bytes.items;
  bound : vec_len l.bytes ≤ most_bytes;
  unfailed : l.watch ≡ l.initial.watch;
}

abbrev pub decreases-loop-spans : goal.decreases-loop-spans
decreases-loop-spans g l = most_bytes - vec_len l.bytes
