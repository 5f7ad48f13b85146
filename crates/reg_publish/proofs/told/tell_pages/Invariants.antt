use Rattle.std.proofs.Common.{take}
use Rattle.std.specs.List.{flat_map}
use Rattle.reg_history.specs.Published.{page_facts}
use Rattle.reg_history.specs.Recording.{Took}
use Rattle.reg_publish.specs.Told.{pages_of}
use Rattle.reg_publish.proofs.told.tell_pages.Given as goal

abbrev pub invariant-loop-told : goal.invariant-loop-told
invariant-loop-told g l =
    Took g.T.Takes.Awaits l.fn.taker l.taker
    (flat_map page_facts (pages_of (take l.told-index l.pages)))
