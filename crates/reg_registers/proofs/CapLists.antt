-- Capabilities that were sorted by account and digest are their list.
use Rattle.std.proofs.Common.{◌≡◌, ℕ, ◌<◌, ◌+◌, ◌&&◌, Bool, false, List, [], ◌∷◌, length, map}
use Rattle.std.proofs.Common.{get_or, refl, sym, ap, ◌∙◌, arith, IsPermutation}
use Rattle.std.specs.List.{AllByRecursion, IsDistinct}
use Rattle.std.specs.List.Sorted.{IsSortedByKey}
use Rattle.std.specs.Map.{keys_of}
use Rattle.std.specs.declared.cmp.Ordering.{Ordering}
use Rattle.std.specs.declared.cmp.Ordering.TheVariants.{Less, Equal, Greater}
use Rattle.std.specs.Ordering.{eq_by_cmp, is_eq, is_lt, ordering_reverse}
use Rattle.std.specs.FinMap.{FinMap, entries, entries_sorted, get-from_entries}
use Rattle.std.specs.Fn.{Called, ComputesKey}
use Rattle.std.proofs.lemmas.Fn.{always_returns_same}
use Rattle.std.proofs.lemmas.List.{get_or-map, length-map}
use Rattle.std.proofs.lemmas.List.Sorted.{IsPermutation-map}
use Rattle.std.proofs.lemmas.Map.Keys.{apart_from_distinct, sorted_from_all_adjacent}
use Rattle.std.proofs.lemmas.Simd.{map-map}
use denote.Param.Members.{Mut}
use denote.Ref.{Bor}
use Rattle.reg_maps.specs.Maps.{text_cmp}
use Rattle.reg_maps.specs.RowMaps.{AreApart, AreAscending}
use Rattle.reg_maps.proofs.Ascending.{apart_from_ascending, ascending_from_is_sorted}
use Rattle.reg_maps.proofs.MapLaws.{IsKeyOrder, entries_are, pair_keys, text_keys}
use Rattle.reg_maps.proofs.Orderings.{tie}
use Rattle.reg_maps.proofs.RowMaps.Entries.{apart_head, apart_more, apart_permuted, apart_tail, find_permuted}
use Rattle.reg_core.specs.CapRows.{CapPlace, by_account, cap_list, cap_place, cap_place_cmp, cap_row, cap_rows}
use Rattle.reg_core.specs.declared.capability.Cap.{Cap}
use Rattle.reg_core.specs.declared.capability.CapRow.{CapRow}

cap_places : IsKeyOrder cap_place_cmp
cap_places = pair_keys text_keys text_keys

-- a row as an entry at its place
abbrev placed : CapRow → CapPlace × Cap
placed row = (cap_place row, row.cap)

-- ---- Places that differ

apart_second : (r : Ordering) (b : Bool) → b ≡ false → (is_eq r && b) ≡ false
apart_second Less b h = refl
apart_second Equal b h = h
apart_second Greater b h = refl

abbrev rows_of : List (List ℕ × Cap) → List CapRow
rows_of es = map (λ e. cap_row e.0 e.1) es

free_places : (account digest : List ℕ) (es : List (List ℕ × Cap))
    → AllByRecursion (λ y. eq_by_cmp text_cmp digest y ≡ false) (keys_of es)
    → AllByRecursion (λ y. eq_by_cmp cap_place_cmp (account, digest) y ≡ false)
    (keys_of (map placed (rows_of es)))
free_places account digest [] free = tt
free_places account digest (e ∷ es) free = (
  tie (text_cmp account e.1.account) (text_cmp digest e.0)
      ∙ apart_second (text_cmp account e.1.account) (eq_by_cmp text_cmp digest e.0) free.0,
  free_places account digest es free.1,
)

-- rows at digests that differ are at places that differ
apart_places : (es : List (List ℕ × Cap)) → AreApart text_cmp es
    → AreApart cap_place_cmp (map placed (rows_of es))
unfolding IsDistinct
apart_places [] apart = tt
apart_places (e ∷ es) apart =
    apart_more cap_place_cmp (placed (cap_row e.0 e.1)) (map placed (rows_of es))
    (free_places e.1.account e.0 es (apart_head text_cmp e es apart))
    (apart_places es (apart_tail text_cmp e es apart))

-- ---- Places that ascend

-- what is not less and does not tie is greater
pub above : (r s : Ordering) → s ≡ ordering_reverse r → is_eq s ≡ false → is_lt r ≡ false → s ≡ Less
above Less s flips no_tie h = absurd (cc)
above Equal s flips no_tie h = absurd (cc)
above Greater s flips no_tie h = flips

-- rows in order whose places differ ascend
ascending : (rows : List CapRow) → AreApart cap_place_cmp (map placed rows)
    → IsSortedByKey cap_place cap_place_cmp rows → AreAscending cap_place_cmp (map placed rows)
ascending [] apart up = sorted_from_all_adjacent cap_places.total [] ([], []) (λ k inside. absurd (omega (arith, inside)))
ascending (row ∷ rows) apart up =
    sorted_from_all_adjacent cap_places.total (keys_of (map placed (row ∷ rows))) (cap_place row)
    (λ k inside.
    let all = row ∷ rows in
    let keys = keys_of (map placed all) in
    let long = length-map (map placed all) (λ e. e.0) in
    let long2 = length-map all placed in
    let within : k + 1 < length all = omega (arith, inside, long, long2) in
    let here = at k (omega (arith, within)) in
    let next = at (k + 1) within in
    let x = cap_place (get_or all k row) in
    let y = cap_place (get_or all (k + 1) row) in
    let no_tie : eq_by_cmp cap_place_cmp x y ≡ false =
    (λ i. eq_by_cmp cap_place_cmp (sym here i) (sym next i))
    ∙ apart_from_distinct (eq_by_cmp cap_place_cmp) keys k (k + 1) (cap_place row) apart
    (omega arith) inside in
    let less = above (cap_place_cmp y x) (cap_place_cmp x y) (cap_places.total.antisymm x y) no_tie
    (up k row (omega arith) within) in
    (λ i. cap_place_cmp (here i) (next i)) ∙ less)
  where
    at : (k : ℕ) → k < length (row ∷ rows)
        → get_or (keys_of (map placed (row ∷ rows))) k (cap_place row)
        ≡ cap_place (get_or (row ∷ rows) k row)
    at k inside =
        ap (λ ks. get_or ks k (cap_place row)) (map-map (λ (e : CapPlace × Cap). e.0) placed (row ∷ rows))
        ∙ get_or-map cap_place (row ∷ rows) k row (cap_place row) inside

-- ---- The list

unplaced : (rows : List CapRow) → map (λ e. cap_row e.0.1 e.1) (map placed rows) ≡ rows
unplaced [] = refl
unplaced (row ∷ rows) = ap (λ rest. row ∷ rest) (unplaced rows)

-- the rows in order of their places
in_order : (caps : FinMap text_cmp Cap) (rows : List CapRow) → IsPermutation (cap_rows caps) rows
    → IsSortedByKey cap_place cap_place_cmp rows → rows ≡ cap_list caps
unfolding by_account
in_order caps rows moved up =
    let es = map placed (cap_rows caps) in
    let fs = map placed rows in
    let turned = IsPermutation-map placed (cap_rows caps) rows moved in
    let apart = apart_places (entries caps)
    (apart_from_ascending text_cmp (entries caps)
    (ascending_from_is_sorted text_cmp (entries caps) (entries_sorted caps))) in
    let up_there = ascending rows (apart_permuted cap_places es fs turned apart) up in
    let same : entries (by_account caps) ≡ fs =
    entries_are cap_places (by_account caps) fs up_there (λ q.
    get-from_entries cap_places.total es q ∙ find_permuted cap_places q es fs turned apart) in
    sym (ap (map (λ e. cap_row e.0.1 e.1)) same ∙ unplaced rows)

-- rows that were sorted by a closure that gives the place of each
pub cap_list-sorted : {F : Type 0} {g : Mut F (Bor CapRow × Unit {0}) CapPlace} {f : F}
    (caps : FinMap text_cmp Cap) (rows : List CapRow) → IsPermutation (cap_rows caps) rows
    → ((key : CapRow → CapPlace) → ComputesKey g key f → IsSortedByKey key cap_place_cmp rows)
    → ((a : Bor CapRow × Unit {0}) (r : CapPlace) (f' : F) → Called g f a r f'
    → (r ≡ cap_place a.0.now) × (f' ≡ f))
    → rows ≡ cap_list caps
cap_list-sorted {g = g} {f = f} caps rows moved sorted called =
    in_order caps rows moved
    (sorted cap_place (always_returns_same g (λ a r. r ≡ cap_place a.0.now) f called))
