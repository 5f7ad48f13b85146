-- The first worlds are well kept.
use Rattle.std.proofs.Common.{◌≡◌, refl, ap, Option, Some, None, IsSome, is_some}
use Rattle.std.specs.Cmp.Derive.{both_true}
use Rattle.std.specs.FinMap.{get-empty}
use Rattle.std.specs.Ordering.{nat_cmp}
use Rattle.reg_maps.specs.Maps.{text_cmp}
use Rattle.reg_blocks.specs.Block.{block_cmp}
use Rattle.reg_core.specs.Journal.{acts_of, stamp_of_job, with_acts}
use Rattle.reg_core.specs.Laws.{FirstWorldsAreWellKept, clerk_cap}
use Rattle.reg_core.specs.WellKept.{WellKept}
use Rattle.reg_core.specs.World.{name_cmp, place_cmp, seat_cmp, link_cmp, empty_world, applied}
use Rattle.reg_core.specs.declared.change.Change.{Change}
use Rattle.reg_core.specs.declared.change.Change.TheVariants.{Grant}
use Rattle.reg_core.proofs.Keeping.Changes.{can_grant}
use Rattle.reg_core.proofs.Keeping.OtherMaps.{with_journal}

-- a map without rows has none
absent : {A P : Type 0} {o : Option A} {x : A} → o ≡ None → o ≡ Some x → P
absent none is_there = absurd (cc)

no_key : {A P : Type 0} {o : Option A} → o ≡ None → IsSome o → P
no_key none there = let gone = ap is_some none in absurd (cc)

empty_kept : WellKept empty_world
empty_kept = record {
  caps = λ digest cap is_there. absent (get-empty text_cmp digest) is_there;
  registries = λ name table is_there. absent (get-empty text_cmp name) is_there;
  entries = λ place a is_there. absent (get-empty place_cmp place) is_there;
  open_values = λ place a is_there. absent (get-empty place_cmp place) is_there;
  requests = λ name case is_there. absent (get-empty name_cmp name) is_there;
  given = λ name case is_there. absent (get-empty name_cmp name) is_there;
  queue = λ seat there. no_key (get-empty seat_cmp seat) there;
  queued = λ seat there. no_key (get-empty seat_cmp seat) there;
  advice = λ seat advice is_there. absent (get-empty seat_cmp seat) is_there;
  advised = λ seat advice is_there. absent (get-empty seat_cmp seat) is_there;
  pool = λ prefix there. no_key (get-empty nat_cmp prefix) there;
  blocks = λ block h is_there. absent (get-empty block_cmp block) is_there;
  in_pool = λ block h is_there. absent (get-empty block_cmp block) is_there;
  apart = λ a b there. no_key (get-empty block_cmp a) there;
  held = λ place a is_there. absent (get-empty place_cmp place) is_there;
  agents = λ link there. no_key (get-empty link_cmp link) there;
}

pub first_worlds_kept : FirstWorldsAreWellKept
first_worlds_kept = (
  empty_kept,
  λ digest form.
      let first : Change = Grant digest clerk_cap in
      with_journal (applied empty_world first)
      (can_grant empty_world digest clerk_cap empty_kept (both_true form refl)
      (get-empty text_cmp digest)).1
      (with_acts (acts_of (stamp_of_job None) empty_world first) empty_world.journal),
)
