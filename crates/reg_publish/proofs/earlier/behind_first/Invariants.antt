use Rattle.std.proofs.Common.{◌≡◌, drop}
use Rattle.reg_publish.specs.Earlier.{behind_first}
use Rattle.reg_publish.proofs.earlier.behind_first.Given as goal

-- it is at no place before this
abbrev pub invariant-loop-place : goal.invariant-loop-place
invariant-loop-place l = behind_first l.front (drop l.place l.text) ≡ behind_first l.front l.text
