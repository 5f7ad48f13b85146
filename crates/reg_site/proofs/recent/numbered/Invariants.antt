use Rattle.std.proofs.Common.{◌≡◌, ◌+◌, map, take}
use Rattle.reg_site.specs.Changes.{shown}
use Rattle.reg_site.specs.Recent.{numbered}
use Rattle.reg_site.proofs.recent.numbered.Given as goal

abbrev pub invariant-loop-place : goal.invariant-loop-place
invariant-loop-place l = record {
  counted : l.number ≡ l.fn.before + l.place;
  shown : map shown l.changes.items
      ≡ numbered (l.fn.before + 1) (take l.place (map (λ t. t.row) l.recent.items))
      (take l.place (map (λ t. t.digest) l.recent.items));
}
