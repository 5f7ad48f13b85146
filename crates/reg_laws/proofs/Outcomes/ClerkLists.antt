-- What a clerk lists is whole: the requests that wait, and all capabilities by account and digest.
use Rattle.std.proofs.Common.{◌≡◌, ℕ, suc, Bool, true, false, cond, List, [], ◌∷◌, map, refl, sym, ap, subst, ◌∙◌, arith}
use Rattle.std.specs.Prelude.{Option, Some, option_and_then, All, Contains}
use Rattle.std.specs.FinMap.{FinMap, get, entries, find, get-entries, get-from_entries}
use Rattle.std.specs.List.Sorted.{IsStrictlySortedBy}
use Rattle.reg_core.proofs.Common.{false_from_ne_true, eq_by_cmp_equiv, eq_by_cmp, both_ways, text_cmp}
use Rattle.reg_core.proofs.Common.{only_if, IsKeyOrder, text_keys, pair_keys, tied, get-select}
use Rattle.reg_core.proofs.Common.{All-entries, Contains-map, Contains-entries, ascending-entries}
use Rattle.reg_core.proofs.Common.{ascending-keys, CapPlace, cap_place, cap_place_cmp, cap_row, cap_list}
use Rattle.reg_core.proofs.Common.{arrival_cmp, arrival_keys, by_arrival, get-by_arrival, is_pending, name_of}
use Rattle.reg_core.proofs.Common.{waiting, waiting_file, waiting_list, World, RequestName, name_keys, get-chosen}
use Rattle.reg_laws.proofs.Types.{Cap, CapRow, Case}
use Rattle.std.proofs.lemmas.List.Elements.{All-head, All-tail, All-map, All-contains}
use Rattle.std.proofs.lemmas.Simd.{map-map}
use Rattle.reg_core.specs.CapRows.{by_account}
use Rattle.reg_core.specs.Lists.{IsWaiting, WaitingList, CapList}
use Rattle.reg_core.specs.declared.case_file.WaitingFile.{WaitingFile}

-- ---- The requests that wait, in the order in which they came

module _ (w : World) where
  abbrev if_pending : Case → Option Case
  if_pending case = only_if (is_pending case.state) case

  abbrev file_of : RequestName × Case → WaitingFile
  file_of e = waiting_file w e.0 e.1

  abbrev arrived : FinMap (arrival_cmp w.journal) Case
  arrived = by_arrival w.journal (waiting w)

  is_waiting : (name : RequestName) (case : Case) → get arrived name ≡ Some case
      → IsWaiting w (waiting_file w name case)
  is_waiting name case found =
      let is = get-chosen name_keys (λ name case. is_pending case.state) w.requests name case
      (sym (get-by_arrival w.journal (waiting w) name) ∙ found) in
      (((refl, refl, is.0), refl, refl), is.1, refl)

  pub waiting_list_whole : WaitingList w (waiting_list w)
  waiting_list_whole = record {
    only = All-map (IsWaiting w) file_of (entries arrived)
        (All-entries (arrival_keys w.journal).total (λ e. IsWaiting w (file_of e)) arrived is_waiting);
    every = λ account reference case is pends.
        let name : RequestName = (account, reference) in (
          waiting_file w name case,
          Contains-map file_of (entries arrived) (name, case)
              (Contains-entries (arrival_keys w.journal) arrived name case
              (get-by_arrival w.journal (waiting w) name
              ∙ get-select name_keys (λ name. if_pending) w.requests name
              ∙ ap (option_and_then if_pending) is ∙ ap (λ b. only_if b case) pends)),
          ((refl, refl, is), refl, refl),
        );
    ascending =
        ascending-entries (arrival_cmp w.journal) file_of
        (λ (waiting : WaitingFile). name_of waiting.file) (λ e. refl) arrived;
  }

-- ---- All capabilities, by account and digest

cap_places : IsKeyOrder cap_place_cmp
cap_places = pair_keys text_keys text_keys

-- a capability at its place
abbrev placed : List ℕ × Cap → CapPlace × Cap
placed e = ((e.1.account, e.0), e.1)

-- what is found at a place is of its account, and stands at its digest
placed_found : (es : List (List ℕ × Cap)) (place : CapPlace) (cap : Cap)
    → find cap_place_cmp place (map placed es) ≡ Some cap
    → (cap.account ≡ place.0) × Contains es (place.1, cap)
placed_found [] place cap is = absurd (cc)
placed_found (e ∷ es) place cap is =
    by (λ is. placed_found es place cap is) (eq_by_cmp cap_place_cmp place (e.1.account, e.0)) refl
    is
  where
    Found : List (List ℕ × Cap) → Type 0
    Found es = (cap.account ≡ place.0) × Contains es (place.1, cap)

    by : (find cap_place_cmp place (map placed es) ≡ Some cap → Found es)
        → (b : Bool) → eq_by_cmp cap_place_cmp place (e.1.account, e.0) ≡ b
        → cond b (Some e.1) (find cap_place_cmp place (map placed es)) ≡ Some cap
        → Found (e ∷ es)
    by later true t is =
        let value : e.1 ≡ cap = cc in
        let key = tied cap_places place (e.1.account, e.0) t in (
          ap (λ (c : Cap). c.account) (sym value) ∙ sym (ap (λ (p : CapPlace). p.0) key),
          subst (Contains (e ∷ es)) (λ i. ((sym key i).1, value i)) (0, omega arith, refl),
        )
    by later false t is =
        let rest = later is in
        let inside = rest.1.1 in
        (rest.0, (suc rest.1.0, omega (arith, inside), rest.1.2))

-- what stands at a digest is found at its place
found_placed : (es : List (List ℕ × Cap)) (digest : List ℕ) (cap : Cap)
    → find text_cmp digest es ≡ Some cap
    → find cap_place_cmp (cap.account, digest) (map placed es) ≡ Some cap
found_placed [] digest cap is = absurd (cc)
found_placed (e ∷ es) digest cap is =
    by (λ is. found_placed es digest cap is) (eq_by_cmp text_cmp digest e.0) refl is
  where
    Found : List (List ℕ × Cap) → Type 0
    Found es = find cap_place_cmp (cap.account, digest) (map placed es) ≡ Some cap

    other : eq_by_cmp text_cmp digest e.0 ≡ false
        → eq_by_cmp cap_place_cmp (cap.account, digest) (e.1.account, e.0) ≡ false
    other t = false_from_ne_true _ (λ u.
        let key = tied cap_places (cap.account, digest) (e.1.account, e.0) u in
        both_ways (eq_by_cmp text_cmp digest e.0) t
        (ap (λ (p : CapPlace). eq_by_cmp text_cmp p.1 e.0) key
        ∙ (eq_by_cmp_equiv text_keys.total).refl e.0))

    by : (find text_cmp digest es ≡ Some cap → Found es) → (b : Bool)
        → eq_by_cmp text_cmp digest e.0 ≡ b
        → cond b (Some e.1) (find text_cmp digest es) ≡ Some cap → Found (e ∷ es)
    by later true t is =
        let value : e.1 ≡ cap = cc in
        let key = tied text_keys digest e.0 t in
        let here : eq_by_cmp cap_place_cmp (cap.account, digest) (e.1.account, e.0) ≡ true =
        (λ i. eq_by_cmp cap_place_cmp ((sym value i).account, key i) (e.1.account, e.0))
        ∙ (eq_by_cmp_equiv cap_places.total).refl (e.1.account, e.0) in
        ap (λ b. cond b (Some e.1) (find cap_place_cmp (cap.account, digest) (map placed es))) here
        ∙ is
    by later false t is =
        ap (λ b. cond b (Some e.1) (find cap_place_cmp (cap.account, digest) (map placed es)))
        (other t)
        ∙ later is

get-by_account : (caps : FinMap text_cmp Cap) (place : CapPlace)
    → get (by_account caps) place ≡ find cap_place_cmp place (map placed (entries caps))
unfolding by_account
get-by_account caps place =
    get-from_entries cap_places.total _ place
    ∙ ap (find cap_place_cmp place) (map-map (λ row. (cap_place row, row.cap)) _ (entries caps))

module _ (caps : FinMap text_cmp Cap) where
  abbrev listed : CapPlace × Cap → CapRow
  listed e = cap_row e.0.1 e.1

  there : (place : CapPlace) (cap : Cap) → get (by_account caps) place ≡ Some cap
      → (cap.account ≡ place.0) × (get caps place.1 ≡ Some cap)
  there place cap found =
      let is = placed_found (entries caps) place cap (sym (get-by_account caps place) ∙ found) in (
        is.0,
        All-contains (λ e. get caps e.0 ≡ Some e.1) (entries caps) (place.1, cap)
            (All-entries text_keys.total (λ e. get caps e.0 ≡ Some e.1) caps (λ digest cap is. is))
            is.1,
      )

  -- each row has the place of its entry
  same_places : (es : List (CapPlace × Cap)) → All (λ e. e.1.account ≡ e.0.0) es
      → map (λ e. e.0) es ≡ map cap_place (map listed es)
  same_places [] all = refl
  same_places (e ∷ es) all =
      let own = All-head (λ (e : CapPlace × Cap). e.1.account ≡ e.0.0) e es all in
      let rest = same_places es (All-tail (λ (e : CapPlace × Cap). e.1.account ≡ e.0.0) e es all) in
      λ i. (sym own i, e.0.1) ∷ rest i

pub cap_list_whole : (w : World) → CapList w (cap_list w.caps)
cap_list_whole w = record {
  only = All-map (λ row. get w.caps row.digest ≡ Some row.cap) (listed w.caps)
      (entries (by_account w.caps))
      (All-entries cap_places.total (λ e. get w.caps e.0.1 ≡ Some e.1) (by_account w.caps)
      (λ place cap found. (there w.caps place cap found).1));
  every = λ digest cap is.
      Contains-map (listed w.caps) (entries (by_account w.caps)) ((cap.account, digest), cap)
      (Contains-entries cap_places (by_account w.caps) (cap.account, digest) cap
      (get-by_account w.caps (cap.account, digest)
      ∙ found_placed (entries w.caps) digest cap (sym (get-entries w.caps digest) ∙ is)));
  ascending =
      subst (IsStrictlySortedBy cap_place_cmp)
      (same_places w.caps (entries (by_account w.caps))
      (All-entries cap_places.total (λ e. e.1.account ≡ e.0.0) (by_account w.caps)
      (λ place cap found. (there w.caps place cap found).0)))
      (ascending-keys (by_account w.caps));
}
