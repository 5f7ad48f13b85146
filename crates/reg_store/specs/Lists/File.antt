-- Requests with their experts and the advice on them.
use Rattle.reg_maps.specs.Maps.{text_cmp}
use Rattle.reg_maps.specs.Groups.{pair_map}
use Rattle.reg_core.specs.World.{World, name_cmp, empty_world}
use Rattle.reg_store.specs.Lists.Opinions.{Opinions}
use Rattle.reg_store.specs.Lists.Panels.{Panels, seats}
use Rattle.reg_store.specs.Lists.Requests.{Requests}

-- the world of these experts and advice alone
abbrev pub advice_world : Panels → Opinions → World
advice_world panels opinions = record empty_world {
  queue = seats panels;
  advice = pair_map name_cmp text_cmp opinions;
}

-- and of these requests
abbrev pub review_world : Requests → Panels → Opinions → World
review_world requests panels opinions = record (advice_world panels opinions) {
  requests = pair_map text_cmp text_cmp requests;
}
