-- Entries with their marks, as rows.
use Rattle.std.proofs.Common.{◌≡◌, ℕ, Bool, true, false, ◌&&◌, ◌||◌, List, [], ◌∷◌, map}
use Rattle.std.proofs.Common.{Option, Some, None, is_some, option_and_then, option_map, refl, sym, ap, ◌∙◌}
use Rattle.std.proofs.Math.Bool.{and-true}
use Rattle.std.proofs.lemmas.List.Elements.{recursion_from_All}
use Rattle.std.proofs.lemmas.Simd.{map-map}
use Rattle.std.specs.Cmp.{eq_by_cmp_equiv}
use Rattle.std.specs.BTreeSet.{BTreeSet, contains}
use Rattle.std.specs.FinMap.{FinMap, contains_key, contains_key-keys, entries, get}
use Rattle.std.specs.List.{AllByRecursion, list_any}
use Rattle.std.specs.Ordering.{eq_by_cmp, nat_cmp}
use Rattle.reg_maps.specs.Maps.{only_if, same_text, select, text_cmp}
use Rattle.reg_maps.proofs.MapLaws.{All-entries, get-select, same_at, text_keys, tied}
use Rattle.reg_maps.proofs.KeyTests.{pair_test, text_test}
use Rattle.reg_maps.proofs.Mapped.{get-mapped, mapped}
use Rattle.reg_core.specs.Entry.{entry_row, with_hold}
use Rattle.reg_core.specs.Page.{entry_rows}
use Rattle.reg_core.specs.View.{entries_of}
use Rattle.reg_core.specs.World.{Place, place_cmp}
use Rattle.reg_core.specs.declared.entry.Entry.{Entry}
use Rattle.reg_core.specs.declared.entry.Registration.{Registration}
use Rattle.reg_core.proofs.KeyOrders.{place_keys}
use Rattle.reg_records.specs.declared.holds.Hold.{Hold}
use Rattle.reg_statements.specs.Content.{AreTied, assembled, marked}
use Rattle.reg_statements.specs.Defined.{rows_where}
use Rattle.reg_statements.specs.Office as office
use Rattle.reg_statements.specs.Parts.{Parts}
use Rattle.reg_rows.specs.Marks.{entry_held, entry_marked, held_among, is_among, marked_by}
use Rattle.reg_rows.proofs.Found.{chosen_by, each_passes, itself}
use Rattle.reg_rows.proofs.MappedRows.{rows_mapped}

-- ---- Only what expires has a mark

and-false : (b : Bool) → (b && false) ≡ false
and-false true = refl
and-false false = refl

expiring : (p : Parts) → AreTied p → (place : Place) (a : Registration)
    → get p.entries place ≡ Some a
    → (is_some a.term.expires && contains_key p.holds place) ≡ contains_key p.holds place
expiring p ties place a there = go (contains_key p.holds place) refl
  where
    go : (b : Bool) → contains_key p.holds place ≡ b → (is_some a.term.expires && b) ≡ b
    go false is = and-false (is_some a.term.expires)
    go true is =
        let found = ties.holds place is in
        let is_there = found.1 in
        let same : found.0 ≡ a = cc in
        and-true (is_some a.term.expires)
        ∙ ap (λ (a : Registration). is_some a.term.expires) (sym same) ∙ found.2

-- an entry with its mark, if it expires
abbrev hold_if : Parts → Place → Registration → Registration
hold_if p place a = with_hold (is_some a.term.expires && contains_key p.holds place) a

marked_if : (p : Parts) → AreTied p → marked p.holds p.entries ≡ mapped (hold_if p) p.entries
marked_if p ties = same_at place_keys _ _ (λ q.
    get-mapped place_keys (λ place a. with_hold (contains_key p.holds place) a) p.entries q
    ∙ go q (get p.entries q) refl ∙ sym (get-mapped place_keys (hold_if p) p.entries q))
  where
    go : (q : Place) (r : Option Registration) → get p.entries q ≡ r
        → option_map (with_hold (contains_key p.holds q)) r ≡ option_map (hold_if p q) r
    go q None is = refl
    go q (Some a) is = ap (λ held. Some (with_hold held a)) (sym (expiring p ties q a is))

-- ---- The entry at a place

module _ (p : Parts) (ties : AreTied p) (place : Place) where
  abbrev row : Registration → Entry
  row a = entry_row place.0 place.1 a

  there : option_map row (option_map (hold_if p place) (get p.entries place))
      ≡ option_map row (get (assembled p).entries place)
  there =
      ap (option_map row) (sym (ap (λ m. get m place) (marked_if p ties)
      ∙ get-mapped place_keys (hold_if p) p.entries place))

  pub entry_found : (entry : Entry) → Some entry ≡ option_map row (get p.entries place)
      → Some (entry_marked p entry.registry entry)
      ≡ option_map row (get (assembled p).entries place)
  entry_found entry found = go (get p.entries place) found ∙ there
    where
      go : (r : Option Registration) → Some entry ≡ option_map row r
          → Some (entry_marked p entry.registry entry)
          ≡ option_map row (option_map (hold_if p place) r)
      go None found = absurd (cc)
      go (Some a) found =
          let same : entry ≡ row a = cc in
          ap (λ (entry : Entry). Some (entry_marked p entry.registry entry)) same

  pub none_found : None ≡ option_map row (get p.entries place)
      → None ≡ option_map row (get (assembled p).entries place)
  none_found none = go (get p.entries place) none ∙ there
    where
      go : (r : Option Registration) → None ≡ option_map row r
          → None ≡ option_map row (option_map (hold_if p place) r)
      go None none = refl
      go (Some a) none = absurd (cc)

-- ---- The entries of a registry

pub entries_listed : (p : Parts) → AreTied p → (registry : List ℕ)
    → map (entry_marked p registry) (entry_rows (entries_of registry p.entries))
    ≡ entry_rows (entries_of registry (assembled p).entries)
entries_listed p ties registry =
    rows_mapped (λ place a. only_if (same_text place.0 registry) a) (hold_if p)
    (λ place a. entry_row place.0 place.1 a) (entry_marked p registry) each place_keys p.entries
    ∙ ap (λ m. entry_rows (entries_of registry m)) (sym (marked_if p ties))
  where
    each : (place : Place) (a : Registration)
        → option_map (entry_row place.0 place.1)
        (only_if (same_text place.0 registry) (hold_if p place a))
        ≡ option_map (λ a. entry_marked p registry (entry_row place.0 place.1 a))
        (only_if (same_text place.0 registry) a)
    each place a =
        elim (same_text place.0 registry) as (λ b. same_text place.0 registry ≡ b
        → option_map (entry_row place.0 place.1) (only_if b (hold_if p place a))
        ≡ option_map (λ a. entry_marked p registry (entry_row place.0 place.1 a)) (only_if b a)) [
          | true ↦ λ t.
              let own : place.0 ≡ registry = tied text_keys place.0 registry
              (sym (text_test place.0 registry) ∙ t) in
              ap (λ name. Some (entry_row place.0 place.1 (with_hold
              (is_some a.term.expires && contains_key p.holds (name, place.1)) a))) own
          | false ↦ λ t. refl
        ] refl

-- ---- Told by the values of the marks of the registry

pub told_alike : (marks : List Hold) (values : BTreeSet ℕ)
    → ((value : ℕ) → contains nat_cmp values value ≡ is_among marks value) → (es : List Entry)
    → map (marked_by values) es ≡ map (held_among marks) es
told_alike marks values told es =
    λ i. map (λ e. entry_held (is_some e.term.expires && told e.value i) e) es

module _ (p : Parts) (registry : List ℕ) where
  abbrev own : FinMap place_cmp (Unit {0})
  own = select (λ place u. only_if (same_text place.0 registry) u) p.holds

  -- each mark is one of the registry
  abbrev AreOf : List (Place × Unit {0}) → Type 0
  AreOf = AllByRecursion (λ e. e.0.0 ≡ registry)

  are_own : AreOf (entries own)
  are_own =
      recursion_from_All (λ e. e.0.0 ≡ registry) (entries own)
      (All-entries place_keys.total (λ e. e.0.0 ≡ registry) own (λ place u is.
      (chosen_by place_keys (λ place. place.0) registry p.holds place u is).0))

  -- and then a value is found by its place
  found_at : (value : ℕ) (es : List (Place × Unit {0})) → AreOf es
      → list_any (eq_by_cmp nat_cmp value) (map (λ e. e.0.1) es)
      ≡ list_any (eq_by_cmp place_cmp (registry, value)) (map (λ e. e.0) es)
  found_at value [] of = refl
  found_at value (e ∷ es) of =
      let first = sym (ap (eq_by_cmp text_cmp registry) of.0
      ∙ (eq_by_cmp_equiv text_keys.total).refl registry) in
      let here = pair_test text_cmp nat_cmp true (eq_by_cmp nat_cmp value e.0.1) (registry, value) e.0
      first refl in
      λ i. here i || found_at value es of.1 i

  -- the marks have the value where the entry at it is held
  pub among : (marks : List Hold)
      → marks ≡ rows_where office.holds (λ place u. same_text place.0 registry) p → (value : ℕ)
      → is_among marks value ≡ contains_key p.holds (registry, value)
  among marks is value =
      ap (λ marks. is_among marks value) is
      ∙ ap (list_any (eq_by_cmp nat_cmp value)) (map-map _ _ (entries own))
      ∙ found_at value (entries own) are_own ∙ sym (contains_key-keys own (registry, value))
      ∙ ap is_some (get-select place_keys (λ place u. only_if (same_text place.0 registry) u) p.holds
      (registry, value)
      ∙ ap (λ b. option_and_then (λ u. only_if b u) (get p.holds (registry, value))) (itself registry)
      ∙ each_passes (get p.holds (registry, value)))

  -- where no entry expires the marks do not count
  none_expire : (marks : List Hold) (es : List Entry)
      → list_any (λ e. is_some e.term.expires) es ≡ false
      → map (held_among marks) es ≡ map (entry_marked p registry) es
  none_expire marks [] none = refl
  none_expire marks (e ∷ es) none =
      elim (is_some e.term.expires) as (λ b. (b || list_any (λ e. is_some e.term.expires) es) ≡ false
      → entry_held (b && is_among marks e.value) e ∷ map (held_among marks) es
      ≡ entry_held (b && contains_key p.holds (registry, e.value)) e
      ∷ map (entry_marked p registry) es) [
        | true ↦ λ none. absurd (cc)
        | false ↦ λ none. ap (λ rest. entry_held false e ∷ rest) (none_expire marks es none)
      ] none

  all_told : (marks : List Hold)
      → ((value : ℕ) → is_among marks value ≡ contains_key p.holds (registry, value))
      → (es : List Entry) → map (held_among marks) es ≡ map (entry_marked p registry) es
  all_told marks told es =
      λ i. map (λ e. entry_held (is_some e.term.expires && told e.value i) e) es

  -- the marks are told by those that were read, if an entry expires
  pub marks_told : (marks : List Hold) (es : List Entry)
      → (list_any (λ e. is_some e.term.expires) es ≡ true
      → marks ≡ rows_where office.holds (λ place u. same_text place.0 registry) p)
      → map (held_among marks) es ≡ map (entry_marked p registry) es
  marks_told marks es read =
      elim (list_any (λ e. is_some e.term.expires) es) as
      (λ b. list_any (λ e. is_some e.term.expires) es ≡ b
      → map (held_among marks) es ≡ map (entry_marked p registry) es) [
        | true ↦ λ t. all_told marks (among marks (read t)) es
        | false ↦ λ t. none_expire marks es t
      ] refl
