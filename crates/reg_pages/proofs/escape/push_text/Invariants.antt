use Rattle.std.proofs.Common.{◌≡◌, ◌++◌, take}
use Rattle.reg_pages.specs.Escape.{escaped}
use Rattle.reg_pages.proofs.escape.push_text.Given as goal

abbrev pub invariant-loop-b : goal.invariant-loop-b
invariant-loop-b l = l.out.items ≡ l.fn.out.items ++ escaped (take l.b-index l.text)
