-- The requests, experts and advice that reviews keep.
use Rattle.reg_core.specs.World.{World}
use Rattle.reg_store.specs.Lists.File.{review_world}
use Rattle.reg_store.specs.declared.lists.reviews.Reviews.{Reviews}

-- that of what Reviews holds
abbrev pub world_of : Reviews → World
world_of r = review_world r.requests r.panels r.opinions
