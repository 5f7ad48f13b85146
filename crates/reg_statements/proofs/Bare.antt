-- What rows of entries and of requests do not have: marks and minutes.
use Rattle.std.proofs.Common.{◌≡◌, true, false, cond, not, ◌&&◌, List, [], ◌∷◌, Option, Some, None}
use Rattle.std.proofs.Common.{option_map, filter_map, refl, sym, ap, subst, ◌∙◌}
use Rattle.std.proofs.lemmas.Bool.{and_parts, not-true}
use Rattle.std.proofs.lemmas.Option.{same_Some}
use Rattle.std.specs.FinMap.{find, get, get-from_entries}
use Rattle.std.specs.List.{cons_option}
use Rattle.std.specs.Ordering.{eq_by_cmp}
use Rattle.std.specs.declared.cmp.Ordering.{Ordering}
use Rattle.sqlite.specs.Order.{Row}
use Rattle.reg_maps.specs.RowMaps.{held_in}
use Rattle.reg_maps.proofs.MapLaws.{IsKeyOrder}
use Rattle.reg_core.specs.Entry.{registration_in}
use Rattle.reg_core.specs.Request.{case_of}
use Rattle.reg_core.specs.WellKept.{has_entry_form, has_request_form}
use Rattle.reg_core.specs.World.{Place, RequestName}
use Rattle.reg_core.specs.declared.entry.Entry.{Entry}
use Rattle.reg_core.specs.declared.entry.Registration.{Registration}
use Rattle.reg_core.specs.declared.request.Case.{Case}
use Rattle.reg_core.specs.declared.request.Request.{Request}
use Rattle.reg_records.specs.Entries.{entry_in}
use Rattle.reg_records.specs.Requests.Forms.{gives_its_kind}
use Rattle.reg_core.specs.Minutes.{is_bare}
use Rattle.reg_core.proofs.KeyOrders.{name_keys, place_keys}
use Rattle.reg_records.specs.Requests.Reading.{request_in}
use Rattle.reg_records.proofs.EntryLaws.{entries_kept}
use Rattle.reg_records.proofs.RequestLaws.Rows.{requests_kept}
use Rattle.reg_tables.specs.Selecting.{stored}
use Rattle.reg_statements.specs.Content.{AreBare, AreUnheld, case_at, registration_at}

-- ---- What rows read as, their map has

module _ {A K X : Type 0} {R : K → K → Ordering} (o : IsKeyOrder R) (of : A → Option (K × X))
    (P : X → Type 0) (each : (row : A) (k : K) (x : X) → of row ≡ Some (k, x) → P x) where
  first : (q : K) (x : X) (row : A) (es : List (K × X)) → (find R q es ≡ Some x → P x)
      → (r : Option (K × X)) → of row ≡ r → find R q (cons_option r es) ≡ Some x → P x
  first q x row es rest None at is = rest is
  first q x row es rest (Some e) at is =
      elim (eq_by_cmp R q e.0) as (λ b. cond b (Some e.1) (find R q es) ≡ Some x → P x) [
        | true ↦ λ h. let same : e.1 ≡ x = cc in subst P same (each row e.0 e.1 at)
        | false ↦ rest
      ] is

  found : (q : K) (x : X) (rows : List A) → find R q (filter_map of rows) ≡ Some x → P x
  found q x [] is = absurd (cc)
  found q x (row ∷ rows) is =
      first q x row (filter_map of rows) (found q x rows) (of row) refl is

  all_have : (rows : List A) (q : K) (x : X) → get (held_in {R = R} of rows) q ≡ Some x → P x
  all_have rows q x is = found q x rows (sym (get-from_entries o.total (filter_map of rows) q) ∙ is)

-- ---- Entries

row_unheld : (row : Row) (place : Place) (a : Registration)
    → registration_at row ≡ Some (place, a) → a.term.held ≡ false
unfolding registration_at
row_unheld row place a = go (entry_in (stored 7 row)) refl
  where
    go : (r : Option Entry) → entry_in (stored 7 row) ≡ r
        → option_map {U = Place × Registration} (λ e. ((e.registry, e.value), registration_in e)) r ≡ Some (place, a)
        → a.term.held ≡ false
    go None was is = absurd (cc)
    go (Some e) was is =
        let form = and_parts (has_entry_form (e.registry, e.value) (registration_in e))
        (not e.term.held) (entries_kept.formed (stored 7 row) e was) in
        let same : registration_in e ≡ a =
        ap (λ (p : Place × Registration). p.1) (same_Some _ _ is) in
        subst (λ (a : Registration). a.term.held ≡ false) same (not-true e.term.held form.1)

pub entries_unheld : (rows : List Row) → AreUnheld (held_in registration_at rows)
entries_unheld = all_have place_keys registration_at (λ a. a.term.held ≡ false) row_unheld

-- ---- Requests

row_bare : (row : Row) (name : RequestName) (case : Case) → case_at row ≡ Some (name, case)
    → is_bare case.ask ≡ true
unfolding case_at
row_bare row name case = go (request_in (stored 25 row)) refl
  where
    go : (q : Option Request) → request_in (stored 25 row) ≡ q
        → option_map {U = RequestName × Case} (λ r. ((r.account, r.reference), case_of r)) q ≡ Some (name, case)
        → is_bare case.ask ≡ true
    go None was is = absurd (cc)
    go (Some r) was is =
        let form = and_parts (has_request_form (r.account, r.reference) (case_of r)
        && gives_its_kind r.ask r.state) (is_bare r.ask) (requests_kept.formed (stored 25 row) r was) in
        let same : case_of r ≡ case =
        ap (λ (p : RequestName × Case). p.1) (same_Some _ _ is) in
        subst (λ (case : Case). is_bare case.ask ≡ true) same form.1

pub requests_bare : (rows : List Row) → AreBare (held_in case_at rows)
requests_bare = all_have name_keys case_at (λ case. is_bare case.ask ≡ true) row_bare
