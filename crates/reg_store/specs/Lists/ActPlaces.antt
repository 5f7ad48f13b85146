-- Where the acts about requests are in a journal.
use Rattle.std.specs.Prelude.{◌≡◌, ℕ, ◌+◌, ◌++◌, ◌≤◌, List, [], ◌∷◌, Option, Some, None, if◌then◌else◌, length, take, slice_get}
use Rattle.std.specs.BTreeMap.{BTreeMap}
use Rattle.std.specs.Global.{Vec}
use Rattle.reg_maps.specs.Maps.{text_cmp}
use Rattle.reg_maps.specs.Groups.{pair_map}
use Rattle.reg_core.specs.Journal.{is_about}
use Rattle.reg_core.specs.World.{RequestName}
use Rattle.reg_core.specs.declared.journal.Act.{Act}
use Rattle.reg_core.specs.declared.journal.Arrival.{Arrival}
use Rattle.reg_core.specs.declared.journal.Deed.{Deed}
use Rattle.reg_core.specs.declared.journal.Deed.TheVariants.{Submit}
use Rattle.reg_store.specs.Maps.{list_at}
use Rattle.reg_store.specs.Lists.Journal.{journal_of}
use Rattle.reg_store.specs.declared.lists.act_places.ActPlaces.{ActPlaces}

-- with one more, if the act there is about the request
abbrev pub with_place : RequestName → Act → ℕ → List ℕ → List ℕ
with_place name act place places = if is_about name act then places ++ place ∷ [] else places

-- those of the acts about a request, the oldest first: as many acts came before each
abbrev pub places_in : List Act → RequestName → List ℕ
places_in [] name = []
places_in (act ∷ journal) name = with_place name act (length journal) (places_in journal name)

-- by account and reference
abbrev pub PlaceLists : Type 0
PlaceLists = BTreeMap (List ℕ) (BTreeMap (List ℕ) (Vec ℕ))

abbrev pub places_held : PlaceLists → RequestName → List ℕ
places_held lists name = list_at (pair_map text_cmp text_cmp lists) name

-- they are those of the first of these acts, as many as were noted
pub record AreActPlaces (kept : ActPlaces) (acts : List Act) : Type 0 where
  pub within : kept.noted ≤ length acts
  pub found : (name : RequestName)
      → places_held kept.lists name ≡ places_in (journal_of (take kept.noted acts)) name

-- ---- When a request came

abbrev pub not_come : Arrival
not_come = record { number = 0; moment = None }

-- this, if it came by the deed, and else what was found before
abbrev pub arrived_by : Deed → Arrival → Arrival → Arrival
arrived_by (Submit account reference) this found = this
arrived_by deed this found = found

abbrev pub arrived_in : Option Act → ℕ → Arrival → Arrival
arrived_in None place found = found
arrived_in (Some act) place found =
    arrived_by act.deed (record { number = place + 1; moment = act.stamp.moment }) found

-- by the act at a place
abbrev pub arrived_at : List Act → Arrival → ℕ → Arrival
arrived_at acts found place = arrived_in (slice_get acts place) place found
