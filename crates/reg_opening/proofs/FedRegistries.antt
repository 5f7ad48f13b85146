-- What an audit says of the registries and their ranges that it was fed.
use Rattle.std.proofs.Common.{◌≡◌, ℕ, Bool, true, false, cond, ◌&&◌, ◌||◌, List, [], ◌∷◌, map, filter}
use Rattle.std.proofs.Common.{filter_map, refl, sym, ap, subst, ◌∙◌, inl, inr, Option, Some, None}
use Rattle.std.proofs.Common.{IsSome, is_some, IsPermutation, option_map}
use Rattle.std.proofs.lemmas.Bool.{and_parts}
use Rattle.std.specs.Cmp.{eq_by_cmp_equiv}
use Rattle.std.specs.FinMap.{get, entries, empty, find, from_entries}
use Rattle.std.specs.FinMap.{get-entries, get-from_entries}
use Rattle.std.specs.List.{AllByRecursion, IsDistinct, cons_option, list_all}
use Rattle.std.specs.Map.{keys_of}
use Rattle.std.specs.Ordering.{eq_by_cmp}
use Rattle.sqlite.specs.Order.{Row as SqlRow}
use Rattle.reg_maps.specs.Maps.{keyed, only_if, same_text, text_cmp}
use Rattle.reg_maps.specs.RowMaps.{AreApart, IsTable}
use Rattle.reg_maps.proofs.MapLaws.{entries-select, same_at, text_keys, tied}
use Rattle.reg_maps.proofs.RowMaps.Entries.{IsFree, apart_head, apart_tail, find-free}
use Rattle.reg_maps.proofs.RowMaps.Items.{is_item_table, read_pairs}
use Rattle.reg_maps.proofs.RowMaps.Lists.{shown_rows}
use Rattle.reg_maps.proofs.KeyTests.{text_test}
use Rattle.reg_maps.proofs.RowMaps.Loads as rows
use Rattle.reg_ranges.specs.Forms.{is_partition}
use Rattle.reg_ranges.specs.Tables.{Table}
use Rattle.reg_ranges.specs.declared.range.Range.{Range}
use Rattle.reg_core.specs.WellKept.{WellKept}
use Rattle.reg_core.specs.World.{World, Place, place_cmp}
use Rattle.reg_core.proofs.KeyOrders.{place_keys}
use Rattle.reg_opening.specs.Audits.{Audits}
use Rattle.reg_opening.specs.declared.audit.Audit.{Audit}
use Rattle.reg_records.specs.declared.ranges.RegistryRange.{RegistryRange}
use Rattle.reg_records.specs.declared.registries.Registry.{Registry}
use Rattle.reg_statements.specs.Content.{content, max_at, maxes_in, range_at, ranges_in, ranges_of, registries_in}
use Rattle.reg_statements.specs.Content.{registry_table}
use Rattle.reg_records.specs.Ranges.{range_in}
use Rattle.reg_records.specs.Registries.{registry_in}
use Rattle.reg_tables.specs.Selecting.{stored}
use Rattle.reg_opening.specs.Feeding.{FeedsRows, FeedsTable, TellsTable}
use Rattle.reg_statements.specs.Loading.{ReadAs}
use Rattle.reg_opening.specs.Partitions.{AreRegistries, are_owned, is_named, partition_of, partition_row}
use Rattle.reg_opening.specs.Partitions.{IsEither, IsFedPartitions, ranges_named}
use Rattle.reg_statements.specs.Tables.{Tables}
use Rattle.reg_opening.specs.declared.partitions.Partition.{Partition}
use Rattle.reg_opening.proofs.FedTables.{apart_from_new, new_from_apart, turns, untied, with_all}
use Rattle.reg_opening.specs.Feeding.{MakesPart, Untied}
use Rattle.reg_statements.proofs.Neighbours.{strict}
use Rattle.reg_statements.proofs.RegistryRows.{registry-at}

abbrev max_of : Registry → List ℕ × ℕ
max_of registry = (registry.name, registry.max)

abbrev range_of : RegistryRange → Place × Range
range_of row = ((row.registry, row.range.lo), row.range)

abbrev table_of : Partition → List ℕ × Table
table_of partition = (partition.name, partition.table)

abbrev Before : World → Type 0
Before w = (w.registries ≡ empty) × (w.entries ≡ empty)

part : MakesPart table_of partition_row (λ (w : World) m. record w { registries = m }) Before Untied
part = record {
  none = λ w before. ap (λ m. record w { registries = m }) (sym before.0);
  with = λ w m x. refl;
  free = λ w m x before new. (new, tt);
  new = λ w m x before none tied. none;
  turn = λ w m x before. before.1;
}

-- ---- Registries by name

named : (gs : List Registry) (name : List ℕ)
    → is_named gs name ≡ is_some (find text_cmp name (map max_of gs))
named [] name = refl
named (g ∷ gs) name =
    let same : same_text g.name name ≡ eq_by_cmp text_cmp name g.name =
    text_test g.name name ∙ (eq_by_cmp_equiv text_keys.total).symm g.name name in
    (λ i. same i || named gs name i) ∙ either (eq_by_cmp text_cmp name g.name) g.max (find text_cmp name (map max_of gs))
  where
    either : (b : Bool) (max : ℕ) (r : Option ℕ) → (b || is_some r) ≡ is_some (cond b (Some max) r)
    either true max r = refl
    either false max r = refl

same_names : (rs : List RegistryRange) (gs : List Registry)
    → keys_of (map table_of (map (partition_of rs) gs)) ≡ keys_of (map max_of gs)
same_names rs [] = refl
same_names rs (g ∷ gs) = ap (λ names. g.name ∷ names) (same_names rs gs)

-- ---- Ranges by registry

own_ranges : (rs : List RegistryRange) (name : List ℕ)
    → map (λ e. e.1) (filter_map (λ (e : Place × Range). keyed e.0 (only_if (same_text e.0.0 name) e.1)) (map range_of rs))
    ≡ ranges_named rs name
own_ranges [] name = refl
own_ranges (r ∷ rs) name =
    elim (same_text r.registry name) as (λ b. map (λ (e : Place × Range). e.1) (cons_option (keyed (r.registry, r.range.lo) (only_if b r.range))
    (filter_map (λ (e : Place × Range). keyed e.0 (only_if (same_text e.0.0 name) e.1)) (map range_of rs)))
    ≡ map (λ row. row.range) (cond b (r ∷ filter (λ row. same_text row.registry name) rs) (filter (λ row. same_text row.registry name) rs))) [
      | true ↦ ap (λ more. r.range ∷ more) (own_ranges rs name)
      | false ↦ own_ranges rs name
    ]

has_owner : (p : List ℕ → Bool) (rs : List RegistryRange) (place : Place)
    → list_all (λ row. p row.registry) rs ≡ true
    → IsSome (find place_cmp place (map range_of rs)) → p place.0 ≡ true
has_owner p [] place all there = absurd (cc)
has_owner p (r ∷ rs) place all there =
    let both = and_parts (p r.registry) (list_all (λ row. p row.registry) rs) all in
    elim (eq_by_cmp place_cmp place (r.registry, r.range.lo)) as
    (λ b. eq_by_cmp place_cmp place (r.registry, r.range.lo) ≡ b
    → IsSome (cond b (Some r.range) (find place_cmp place (map range_of rs))) → p place.0 ≡ true) [
      | true ↦ λ t there. ap (λ (q : Place). p q.0) (tied place_keys place (r.registry, r.range.lo) t) ∙ both.0
      | false ↦ λ t there. has_owner p rs place both.1 there
    ] refl there

each_owned : (p : List ℕ → Bool) (rs : List RegistryRange)
    → ((place : Place) → IsSome (find place_cmp place (map range_of rs)) → p place.0 ≡ true)
    → list_all (λ row. p row.registry) rs ≡ true
each_owned p [] owned = refl
each_owned p (r ∷ rs) owned =
    let here : IsSome (find place_cmp (r.registry, r.range.lo) (map range_of (r ∷ rs))) =
    ap (λ b. is_some (cond b (Some r.range) (find place_cmp (r.registry, r.range.lo) (map range_of rs))))
    ((eq_by_cmp_equiv place_keys.total).refl (r.registry, r.range.lo)) in
    let rest = each_owned p rs (λ place there. owned place (later (eq_by_cmp place_cmp place (r.registry, r.range.lo)) r.range (find place_cmp place (map range_of rs)) there)) in
    ap (λ b. b && list_all (λ row. p row.registry) rs) (owned (r.registry, r.range.lo) here) ∙ rest
  where
    later : (b : Bool) (x : Range) (found : Option Range) → IsSome found → IsSome (cond b (Some x) found)
    later true x found there = refl
    later false x found there = there

-- ---- Both tables

module _ (t : Tables) (gs : List Registry) (rs : List RegistryRange)
    (by_place : entries (ranges_in t) ≡ map range_of rs) where
  abbrev ts : List Partition
  ts = map (partition_of rs) gs

  ranges_are : (name : List ℕ)
      → ranges_named rs name ≡ map (λ e. e.1) (entries (ranges_of name (ranges_in t)))
  ranges_are name =
      sym (ap (map (λ e. e.1)) (entries-select place_keys
      (λ place range. only_if (same_text place.0 name) range) (ranges_in t)
      ∙ ap (filter_map (λ (e : Place × Range). keyed e.0 (only_if (same_text e.0.0 name) e.1))) by_place)
      ∙ own_ranges rs name)

  found_table : (name : List ℕ) (gs : List Registry)
      → find text_cmp name (map table_of (map (partition_of rs) gs))
      ≡ option_map (registry_table (ranges_in t) name) (find text_cmp name (map max_of gs))
  found_table name [] = refl
  found_table name (g ∷ gs) =
      elim (eq_by_cmp text_cmp name g.name) as (λ b. eq_by_cmp text_cmp name g.name ≡ b
      → cond b (Some (partition_of rs g).table) (find text_cmp name (map table_of (map (partition_of rs) gs)))
      ≡ option_map (registry_table (ranges_in t) name) (cond b (Some g.max) (find text_cmp name (map max_of gs)))) [
        | true ↦ λ e.
            ap (λ ranges. Some (record { max = g.max; ranges = ranges }))
            (ranges_are g.name ∙ ap (λ name. map (λ e. e.1) (entries (ranges_of name (ranges_in t))))
            (sym (tied text_keys name g.name e)))
        | false ↦ λ e. found_table name gs
      ] refl

  module _ (largest : maxes_in t ≡ from_entries (map max_of gs)) where
    table_at : (name : List ℕ) → get (registries_in (maxes_in t) (ranges_in t)) name
        ≡ find text_cmp name (map table_of ts)
    table_at name =
        registry-at (maxes_in t) (ranges_in t) name
        ∙ ap (option_map (registry_table (ranges_in t) name))
        (ap (λ m. get m name) largest ∙ get-from_entries text_keys.total (map max_of gs) name)
        ∙ sym (found_table name gs)

    all_tables : from_entries (map table_of ts) ≡ registries_in (maxes_in t) (ranges_in t)
    all_tables = same_at text_keys _ _ (λ name.
        get-from_entries text_keys.total (map table_of ts) name ∙ sym (table_at name))

    max_there : (name : List ℕ) → is_named gs name ≡ is_some (get (maxes_in t) name)
    max_there name =
        named gs name ∙ ap is_some (sym (ap (λ m. get m name) largest
        ∙ get-from_entries text_keys.total (map max_of gs) name))

  range_there : (place : Place) → get (ranges_in t) place ≡ find place_cmp place (map range_of rs)
  range_there place = get-entries (ranges_in t) place ∙ ap (find place_cmp place) by_place

  module _ (old new : Audit) (taken : List SqlRow)
      (moved : IsPermutation t.registries taken)
      (read : map max_at taken ≡ map Some (map max_of gs)) where
    fed_registries : IsTable place_cmp range_at t.ranges → are_owned gs rs ≡ true
        → FeedsRows old new (map partition_row ts)
        → FeedsTable Before (AreRegistries t)
        (λ w. record w { registries = registries_in (maxes_in t) (ranges_in t) }) old new
    fed_registries ranges owned feeds = record {
      audits = λ w audits before held.
          let all = rows.loaded text_keys (map max_of gs) held.registries moved read in
          let apart = subst (IsDistinct (eq_by_cmp text_cmp)) (sym (same_names rs gs)) all.0 in
          let fed = feeds.audits w audits
          (turns text_keys table_of partition_row _ Before Untied part w ts before)
          (new_from_apart text_keys table_of partition_row _ Before Untied part w ts before apart
          (untied ts)) in
          subst (Audits new)
          (with_all text_keys table_of partition_row _ Before Untied part w ts before
          ∙ ap (λ m. record w { registries = m }) (all_tables all.1)) fed;
      held = λ w audits before kept.
          let fresh = feeds.fresh w audits
          (turns text_keys table_of partition_row _ Before Untied part w ts before) kept in
          let apart = (apart_from_new text_keys table_of partition_row _ Before Untied part w ts before
          fresh).0 in
          let all = rows.is_table_apart text_keys (map max_of gs) moved read
          (subst (IsDistinct (eq_by_cmp text_cmp)) (same_names rs gs) apart) in
          record {
            registries = all.0;
            ranges = ranges;
            owned = λ place there.
                sym (max_there all.1 place.0)
                ∙ has_owner (is_named gs) rs place owned
                (subst IsSome (range_there place) there);
          };
      stays = feeds.stays;
    }

    no_owner : are_owned gs rs ≡ false → ¬ AreRegistries t
    no_owner missing held =
        let all = rows.loaded text_keys (map max_of gs) held.registries moved read in
        let owned = each_owned (is_named gs) rs (λ place there.
        max_there all.1 place.0 ∙ held.owned place (subst IsSome (sym (range_there place)) there)) in
        absurd (cc)

    no_partition : (whole : World) → whole.registries ≡ registries_in (maxes_in t) (ranges_in t)
        → ¬ AllByRecursion (λ registry. is_partition (partition_of rs registry).table ≡ true) gs
        → AreRegistries t → ¬ WellKept whole
    no_partition whole same missing held kept =
        let all = rows.loaded text_keys (map max_of gs) held.registries moved read in
        let apart = subst (IsDistinct (eq_by_cmp text_cmp)) (sym (same_names rs gs)) all.0 in
        missing (each gs apart (λ name table is.
        let form = kept.registries name table (ap (λ m. get m name) same ∙ table_at all.1 name ∙ is) in
        let parts = and_parts _ _ (and_parts _ _ form).1 in
        (and_parts _ _ parts.0).1))
      where
        each : (gs : List Registry) → AreApart text_cmp (map table_of (map (partition_of rs) gs))
            → ((name : List ℕ) (table : Table)
            → find text_cmp name (map table_of (map (partition_of rs) gs)) ≡ Some table
            → is_partition table ≡ true)
            → AllByRecursion (λ registry. is_partition (partition_of rs registry).table ≡ true) gs
        each [] apart are = tt
        each (g ∷ gs) apart are =
            let more = map table_of (map (partition_of rs) gs) in
            let here = are g.name (partition_of rs g).table
            (ap (λ b. cond b (Some (partition_of rs g).table) (find text_cmp g.name more))
            ((eq_by_cmp_equiv text_keys.total).refl g.name)) in (
              here,
              each gs (apart_tail text_cmp (table_of (partition_of rs g)) more apart)
                  (λ name table is. are name table (later name table g more
                  (apart_head text_cmp (table_of (partition_of rs g)) more apart) is)),
            )
          where
            later : (name : List ℕ) (table : Table) (g : Registry) (more : List (List ℕ × Table))
                → IsFree text_cmp g.name more → find text_cmp name more ≡ Some table
                → cond (eq_by_cmp text_cmp name g.name) (Some (partition_of rs g).table)
                (find text_cmp name more) ≡ Some table
            later name table g more free is =
                elim (eq_by_cmp text_cmp name g.name) as (λ b. eq_by_cmp text_cmp name g.name ≡ b
                → cond b (Some (partition_of rs g).table) (find text_cmp name more) ≡ Some table) [
                  | true ↦ λ e.
                      let none = find-free text_cmp g.name more free in
                      let gone : find text_cmp name more ≡ None =
                      ap (λ name. find text_cmp name more) (tied text_keys name g.name e) ∙ none in
                      absurd (cc)
                  | false ↦ λ e. is
                ] refl

-- registries and ranges that queries of both tables showed
pub registries_told : (t : Tables) (old new : Audit) (gs : List Registry) (rs : List RegistryRange)
    (shown places : List SqlRow) (fed : Bool) → IsPermutation (map (stored 2) t.registries) shown
    → ReadAs registry_in shown gs → IsPermutation (map (stored 5) t.ranges) places
    → ReadAs range_in places rs → IsFedPartitions gs rs old new fed
    → TellsTable Before (AreRegistries t)
    (λ w. record w { registries = registries_in (maxes_in t) (ranges_in t) }) (content t) old new
    fed
unfolding max_at range_at
registries_told t old new gs rs shown places fed moved read along reads is =
    let taken = shown_rows (stored 2) registry_in gs moved read in
    let pairs = read_pairs text_keys max_of (λ row. registry_in (stored 2 row)) taken.0 gs taken.2 in
    let seen = shown_rows (stored 5) range_in rs along reads in
    let ranges = is_item_table place_keys range_of (λ row. range_in (stored 5 row)) rs seen.1 seen.2
    (strict place_keys (λ r. (r.registry, r.range.lo)) rs is.0) in
    elim fed as (λ fed. IsEither gs rs old new fed → TellsTable Before (AreRegistries t)
    (λ w. record w { registries = registries_in (maxes_in t) (ranges_in t) }) (content t) old new
    fed) [
      | true ↦ λ is. fed_registries t gs rs ranges.1 old new taken.0 taken.1 pairs ranges.0 is.0 is.1
      | false ↦ λ is held kept. elim is [
        | inl missing ↦ no_owner t gs rs ranges.1 old new taken.0 taken.1 pairs missing held
        | inr missing ↦ no_partition t gs rs ranges.1 old new taken.0 taken.1 pairs (content t) refl missing held kept
      ]
    ] is.1
