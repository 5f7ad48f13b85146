use Rattle.std.proofs.Common.{◌≡◌, map, take}
use Rattle.reg_site.specs.Summary.{summary}
use Rattle.reg_publish.specs.Told.{pages_of}
use Rattle.reg_publish.proofs.indexes.summaries.Given as goal

abbrev pub invariant-loop-told : goal.invariant-loop-told
invariant-loop-told l = l.summaries.items ≡ map summary (pages_of (take l.told-index l.pages))
