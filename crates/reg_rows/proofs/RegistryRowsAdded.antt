-- The rows of one registry more, and of one range more.
use Rattle.std.proofs.Common.{◌≡◌, ◌<◌, List, [], ◌∷◌, true, false, cond, Some, None}
use Rattle.std.proofs.Common.{Option, IsSome, option_map, filter_map, refl, sym, ap, subst}
use Rattle.std.proofs.Common.{◌∙◌}
use Rattle.std.specs.FinMap.{get, insert, find, get-from_entries}
use Rattle.std.specs.List.{AllByRecursion, cons_option}
use Rattle.std.specs.Ordering.{eq_by_cmp}
use Rattle.sqlite.specs.Effect.{Database}
use Rattle.sqlite.specs.Order.{Row}
use Rattle.reg_maps.specs.Maps.{update}
use Rattle.reg_maps.specs.RowMaps.{held_in}
use Rattle.reg_maps.proofs.KeySets.{each_key, still_in}
use Rattle.reg_maps.proofs.MapLaws.{text_keys, tied}
use Rattle.reg_ranges.specs.declared.range.Range.{Range}
use Rattle.reg_core.specs.World.{Place, place_cmp}
use Rattle.reg_core.proofs.KeyOrders.{place_keys}
use Rattle.reg_records.specs.Ranges.{range_in}
use Rattle.reg_records.specs.declared.ranges.RegistryRange.{RegistryRange}
use Rattle.reg_records.specs.declared.registries.Registry.{Registry}
use Rattle.reg_tables.specs.Schema.{ranges_table}
use Rattle.reg_tables.specs.Selecting.{stored}
use Rattle.reg_statements.specs.Content.{IsStored, assembled, content_of, parts_of}
use Rattle.reg_statements.specs.Content.{range_at, registry_table}
use Rattle.reg_statements.specs.Defined.{HasFreeKey, KeepsTies, with_row}
use Rattle.reg_rows.specs.Registries.{CanFollow, with_range}
use Rattle.reg_rows.proofs.Found.{nothing}
use Rattle.reg_statements.proofs.RegistryRows.{ranges-at, registry-at}
use Rattle.reg_rows.proofs.RegistryRowsMaps.{AreAtFirst, place_free, range_more, registry_more}
use Rattle.reg_statements.specs.Office as office

some_of : {X Y : Type 0} (f : X → Y) (r : Option X) (y : Y) → option_map f r ≡ Some y → IsSome r
some_of f None y is = absurd (cc)
some_of f (Some x) y is = refl

-- one registry more
pub registry_added : (r : Registry) (db : Database) → IsStored db
    → get (content_of db).registries r.name ≡ None
    → (HasFreeKey office.registries r (parts_of db)
    × KeepsTies (with_row office.registries r) (parts_of db))
    × (assembled (with_row office.registries r (parts_of db)) ≡ record (content_of db) {
      registries = insert (content_of db).registries r.name
          (record { max = r.max; ranges = [] });
    })
registry_added r db was none =
    let largest = (parts_of db).maxes in
    let m = (parts_of db).ranges in
    let absent : get largest r.name ≡ None =
    nothing (registry_table m r.name) (get largest r.name)
    (sym (registry-at largest m r.name) ∙ none) in (
      (
        absent,
        λ tied. record {
          ranges = λ place there.
              still_in text_keys largest r.name r.max place.0 (tied.ranges place there);
          holds = tied.holds;
          minutes = tied.minutes;
          acts = tied.acts;
        },
      ),
      ap (λ registries. record (content_of db) { registries = registries })
          (registry_more largest m r.name r.max absent was.kept.tied.ranges),
    )

-- ---- Ranges

first_found : (place : Place) (x : Range) (rows : List Row)
    → find place_cmp place (filter_map range_at rows) ≡ Some x → place.1 ≡ x.lo
unfolding range_at
first_found place x [] is = absurd (cc)
first_found place x (row ∷ rows) is =
    elim (range_in (stored 5 row)) as (λ o. find place_cmp place
    (cons_option (option_map (λ r. ((r.registry, r.range.lo), r.range)) o)
    (filter_map range_at rows)) ≡ Some x → place.1 ≡ x.lo) [
      | None ↦ λ is. first_found place x rows is
      | Some r ↦ λ is.
          elim (eq_by_cmp place_cmp place (r.registry, r.range.lo)) as
          (λ b. eq_by_cmp place_cmp place (r.registry, r.range.lo) ≡ b
          → cond b (Some r.range) (find place_cmp place (filter_map range_at rows)) ≡ Some x
          → place.1 ≡ x.lo) [
            | true ↦ λ t is.
                let same : r.range ≡ x = cc in
                ap (λ (p : Place). p.1) (tied place_keys place (r.registry, r.range.lo) t)
                ∙ ap (λ (x : Range). x.lo) same
            | false ↦ λ t is. first_found place x rows is
          ] refl is
    ] is

-- a range is kept at its first value
at_first : (rows : List Row) → AreAtFirst (held_in range_at rows)
at_first rows place x is =
    first_found place x rows
    (sym (get-from_entries place_keys.total (filter_map range_at rows) place) ∙ is)

one_range : (r : RegistryRange) (db : Database) → IsStored db
    → CanFollow (content_of db).registries r.registry r.range
    → (HasFreeKey office.ranges r (parts_of db) × KeepsTies (with_row office.ranges r) (parts_of db))
    × (assembled (with_row office.ranges r (parts_of db)) ≡ record (content_of db) {
      registries = update (content_of db).registries r.registry (with_range r.range);
    })
one_range r db was follows =
    let place : Place = (r.registry, r.range.lo) in
    let largest = (parts_of db).maxes in
    let m = (parts_of db).ranges in
    let first = at_first (db.trees ranges_table.tree) in
    let low = subst (λ rs. AllByRecursion (λ x. x.lo < r.range.lo) rs)
    (sym (ranges-at largest m r.registry follows.0 follows.1)) follows.2 in
    let there : IsSome (get largest r.registry) =
    some_of (registry_table m r.registry) (get largest r.registry) follows.0
    (sym (registry-at largest m r.registry) ∙ follows.1) in (
      (
        place_free m r.registry r.range first low,
        λ tied. record {
          ranges = each_key place_keys m place (λ p. IsSome (get largest p.0)) r.range tied.ranges there;
          holds = tied.holds;
          minutes = tied.minutes;
          acts = tied.acts;
        },
      ),
      ap (λ registries. record (content_of db) { registries = registries })
          (range_more m r.registry r.range first low largest),
    )

-- one range more of a registry, which is this one
pub range_added : (r : RegistryRange) (range : Range) → r.range ≡ range → (db : Database)
    → IsStored db → CanFollow (content_of db).registries r.registry range
    → (HasFreeKey office.ranges r (parts_of db) × KeepsTies (with_row office.ranges r) (parts_of db))
    × (assembled (with_row office.ranges r (parts_of db)) ≡ record (content_of db) {
      registries = update (content_of db).registries r.registry (with_range range);
    })
range_added r range same db was follows =
    let it = one_range r db was
    (subst (λ x. CanFollow (content_of db).registries r.registry x) (sym same) follows) in (
      it.0,
      it.1 ∙ ap (λ (x : Range). record (content_of db) {
        registries = update (content_of db).registries r.registry (with_range x);
      }) same,
    )
