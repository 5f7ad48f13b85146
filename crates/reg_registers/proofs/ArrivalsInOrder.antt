-- Requests that were sorted by the numbers of their arrivals, and then by name, are in the order in
-- which they came.
use Rattle.std.proofs.Common.{◌≡◌, ℕ, ◌<◌, ◌+◌, Bool, false, List, [], ◌∷◌, length, map}
use Rattle.std.proofs.Common.{get_or, refl, sym, ap, subst, ◌∙◌, arith, IsPermutation}
use Rattle.std.specs.Prelude.{All}
use Rattle.std.specs.List.{IsDistinct}
use Rattle.std.specs.List.Sorted.{IsSortedByKey}
use Rattle.std.specs.Map.{keys_of}
use Rattle.std.specs.declared.cmp.Ordering.{Ordering}
use Rattle.std.specs.Ordering.{eq_by_cmp, is_lt, nat_cmp}
use Rattle.std.specs.FinMap.{FinMap, entries, entries_sorted, get-entries}
use Rattle.std.specs.Fn.{Called, ComputesKey}
use Rattle.std.proofs.lemmas.Fn.{always_returns_same}
use Rattle.std.proofs.lemmas.List.{get_or-map, length-map}
use Rattle.std.proofs.lemmas.List.Elements.{All-cons, All-head, All-nil, All-tail}
use Rattle.std.proofs.lemmas.List.Sorted.{All-permutation, IsPermutation-map}
use Rattle.std.proofs.lemmas.Map.Keys.{apart_from_distinct, sorted_from_all_adjacent}
use Rattle.std.proofs.lemmas.Simd.{map-map}
use denote.Param.Members.{Mut}
use denote.Ref.{Bor}
use Rattle.reg_maps.specs.Maps.{pair_cmp}
use Rattle.reg_maps.specs.RowMaps.{AreApart, AreAscending}
use Rattle.reg_maps.proofs.Ascending.{apart_from_ascending, ascending_from_is_sorted}
use Rattle.reg_maps.proofs.MapLaws.{entries_are}
use Rattle.reg_maps.proofs.RowMaps.Entries.{apart_permuted, find_permuted}
use Rattle.reg_core.proofs.Arrivals.{arrival_keys, arrival_test, find-arrived, get-by_arrival}
use Rattle.reg_core.proofs.KeyOrders.{name_keys}
use Rattle.reg_core.specs.Arrivals.{arrival_cmp, arrival_number, by_arrival, waiting_file, waiting_list}
use Rattle.reg_core.specs.File.{file, name_of, waiting, waiting_files}
use Rattle.reg_core.specs.Request.{case_of}
use Rattle.reg_core.specs.World.{World, RequestName, name_cmp}
use Rattle.reg_core.specs.declared.case_file.WaitingFile.{WaitingFile}
use Rattle.reg_core.specs.declared.request.Case.{Case}
use Rattle.reg_registers.specs.Arrivals.{arrived_in}
use Rattle.reg_registers.specs.declared.arrivals.Arrived.{Arrived}
use Rattle.reg_registers.proofs.CapLists.{above}

-- the number of a request's arrival, and its name
abbrev pub ArrivalPlace : Type 0
ArrivalPlace = ℕ × RequestName

abbrev pub arrival_place : Arrived → ArrivalPlace
arrival_place one = (one.number, name_of one.waiting.file)

abbrev pub arrival_place_cmp : ArrivalPlace → ArrivalPlace → Ordering
arrival_place_cmp = pair_cmp nat_cmp name_cmp

-- the request alone, by its name
abbrev entry_in : Arrived → RequestName × Case
entry_in one = (name_of one.waiting.file, case_of one.waiting.file.request)

module _ (w : World) where
  -- with all that is known of it
  abbrev arrived : RequestName × Case → Arrived
  arrived e = arrived_in w (file w e.0 e.1)

  entries_back : (es : List (RequestName × Case))
      → map entry_in (map (arrived_in w) (map (λ e. file w e.0 e.1) es)) ≡ es
  entries_back [] = refl
  entries_back (e ∷ es) = ap (λ rest. e ∷ rest) (entries_back es)

  -- each of these is made of its entry
  abbrev IsMade : Arrived → Type 0
  IsMade one = arrived (entry_in one) ≡ one

  made : (es : List (RequestName × Case))
      → All IsMade (map (arrived_in w) (map (λ e. file w e.0 e.1) es))
  made [] = All-nil IsMade
  made (e ∷ es) =
      All-cons IsMade (arrived e) (map (arrived_in w) (map (λ e. file w e.0 e.1) es)) refl (made es)

  all_made : (all : List Arrived) → All IsMade all → map arrived (map entry_in all) ≡ all
  all_made [] h = refl
  all_made (one ∷ all) h =
      λ i. All-head IsMade one all h i ∷ all_made all (All-tail IsMade one all h) i

  -- the place of a name
  abbrev placed : RequestName → ArrivalPlace
  placed name = (arrival_number w.journal name, name)

  -- entries that differ and are sorted by their places ascend
  ascending : (es : List (RequestName × Case)) → AreApart (arrival_cmp w.journal) es
      → IsSortedByKey arrival_place arrival_place_cmp (map arrived es)
      → AreAscending (arrival_cmp w.journal) es
  ascending [] apart up =
      sorted_from_all_adjacent (arrival_keys w.journal).total [] ([], [])
      (λ k inside. absurd (omega (arith, inside)))
  ascending (e ∷ es) apart up =
      sorted_from_all_adjacent (arrival_keys w.journal).total (keys_of (e ∷ es)) e.0
      (λ k inside.
      let all = e ∷ es in
      let long = length-map all (λ e. e.0) in
      let long2 = length-map all arrived in
      let within : k + 1 < length all = omega (arith, inside, long) in
      let within2 : k + 1 < length (map arrived all) = omega (arith, within, long2) in
      let here = at k (omega (arith, within)) in
      let next = at (k + 1) within in
      let x = get_or (keys_of all) k e.0 in
      let y = get_or (keys_of all) (k + 1) e.0 in
      let no_less : is_lt (arrival_cmp w.journal y x) ≡ false =
      (λ i. is_lt (arrival_place_cmp (sym next i) (sym here i)))
      ∙ up k (arrived e) (omega arith) within2 in
      above (arrival_cmp w.journal y x) (arrival_cmp w.journal x y)
      ((arrival_keys w.journal).total.antisymm x y)
      (apart_from_distinct (eq_by_cmp (arrival_cmp w.journal)) (keys_of all) k (k + 1) e.0 apart
      (omega arith) inside)
      no_less)
    where
      at : (k : ℕ) → k < length (e ∷ es)
          → arrival_place (get_or (map arrived (e ∷ es)) k (arrived e))
          ≡ placed (get_or (keys_of (e ∷ es)) k e.0)
      at k inside =
          ap arrival_place (get_or-map arrived (e ∷ es) k e (arrived e) inside)
          ∙ ap placed (sym (get_or-map (λ (e : RequestName × Case). e.0) (e ∷ es) k e e.0 inside))

  apart_there : AreApart (arrival_cmp w.journal) (entries (waiting w))
  apart_there =
      subst (λ test. IsDistinct test (keys_of (entries (waiting w))))
      (λ i a b. sym (arrival_test w.journal a b) i)
      (apart_from_ascending name_cmp (entries (waiting w))
      (ascending_from_is_sorted name_cmp (entries (waiting w)) (entries_sorted (waiting w))))

  -- requests that wait, in the order of their places
  in_order : (all : List Arrived)
      → IsPermutation (map (arrived_in w) (waiting_files w)) all
      → IsSortedByKey arrival_place arrival_place_cmp all
      → map (λ one. one.waiting) all ≡ waiting_list w
  in_order all moved up =
      let there = entries (waiting w) in
      let es = map entry_in all in
      let whole = all_made all (All-permutation IsMade _ all moved (made there)) in
      let turned : IsPermutation there es =
      subst (λ from. IsPermutation from es) (entries_back there)
      (IsPermutation-map entry_in (map (arrived_in w) (waiting_files w)) all moved) in
      let apart = apart_permuted (arrival_keys w.journal) there es turned apart_there in
      let apart_names =
      apart_from_ascending name_cmp there
      (ascending_from_is_sorted name_cmp there (entries_sorted (waiting w))) in
      let up_there =
      ascending es apart
      (subst (IsSortedByKey arrival_place arrival_place_cmp) (sym whole) up) in
      let same : entries (by_arrival w.journal (waiting w)) ≡ es =
      entries_are (arrival_keys w.journal) (by_arrival w.journal (waiting w)) es up_there (λ q.
      get-by_arrival w.journal (waiting w) q ∙ get-entries (waiting w) q
      ∙ find_permuted name_keys q there es turned apart_names
      ∙ sym (find-arrived w.journal q es)) in
      ap (map (λ (one : Arrived). one.waiting)) (sym whole)
      ∙ map-map (λ (one : Arrived). one.waiting) arrived es
      ∙ sym (ap (map (λ e. waiting_file w e.0 e.1)) same)

-- requests that were sorted by a closure that gives the place of each
pub waiting_list-sorted : {F : Type 0} {g : Mut F (Bor Arrived × Unit {0}) ArrivalPlace} {f : F}
    (w : World) (all : List Arrived) → IsPermutation (map (arrived_in w) (waiting_files w)) all
    → ((key : Arrived → ArrivalPlace) → ComputesKey g key f
    → IsSortedByKey key arrival_place_cmp all)
    → ((a : Bor Arrived × Unit {0}) (r : ArrivalPlace) (f' : F) → Called g f a r f'
    → (r ≡ arrival_place a.0.now) × (f' ≡ f))
    → map (λ one. one.waiting) all ≡ waiting_list w
waiting_list-sorted {g = g} {f = f} w all moved sorted called =
    in_order w all moved
    (sorted arrival_place (always_returns_same g (λ a r. r ≡ arrival_place a.0.now) f called))
