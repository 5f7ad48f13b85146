-- The table has for the key of each of its rows what the row reads as.
use Rattle.std.proofs.Common.{◌≡◌, true, false, cond, List, [], ◌∷◌, refl, sym, ap, subst}
use Rattle.std.proofs.Common.{Option, Some, None, filter_map}
use Rattle.std.specs.List.{AllByRecursion, cons_option}
use Rattle.std.specs.declared.cmp.Ordering.{Ordering}
use Rattle.std.specs.Ordering.{eq_by_cmp}
use Rattle.std.specs.Cmp.{eq_by_cmp_equiv}
use Rattle.std.specs.FinMap.{find}
use Rattle.reg_maps.specs.RowMaps.{AreApart}
use Rattle.reg_maps.proofs.MapLaws.{IsKeyOrder, tied}
use Rattle.reg_maps.proofs.RowMaps.Entries.{IsFree, apart_head, apart_tail, find-free}

module _ {A K X : Type 0} {R : K → K → Ordering} (o : IsKeyOrder R) (of : A → Option (K × X)) where
  -- the entries have what the row reads as
  abbrev pub IsHeld : List (K × X) → A → Type 0
  IsHeld es row = (k : K) (x : X) → of row ≡ Some (k, x) → find R k es ≡ Some x

  found_more : (k : K) (x : X) (r : Option (K × X)) (es : List (K × X))
      → AreApart R (cons_option r es) → find R k es ≡ Some x
      → find R k (cons_option r es) ≡ Some x
  found_more k x None es apart is = is
  found_more k x (Some e) es apart is =
      elim (eq_by_cmp R k e.0) as (λ b. eq_by_cmp R k e.0 ≡ b
      → cond b (Some e.1) (find R k es) ≡ Some x) [
        | true ↦ λ t.
            let none = find-free R k es (subst (λ key. IsFree R key es) (sym (tied o k e.0 t))
            (apart_head R e es apart)) in
            absurd (cc)
        | false ↦ λ t. is
      ] refl

  held_more : (rows : List A) (r : Option (K × X)) (es : List (K × X))
      → AreApart R (cons_option r es) → AllByRecursion (IsHeld es) rows
      → AllByRecursion (IsHeld (cons_option r es)) rows
  held_more [] r es apart all = tt
  held_more (row ∷ rows) r es apart all = (
    (λ k x is. found_more k x r es apart (all.0 k x is)),
    held_more rows r es apart all.1,
  )

  rest_apart : (r : Option (K × X)) (es : List (K × X)) → AreApart R (cons_option r es)
      → AreApart R es
  rest_apart None es apart = apart
  rest_apart (Some e) es apart = apart_tail R e es apart

  pub rows_held : (rows : List A) → AreApart R (filter_map of rows)
      → AllByRecursion (IsHeld (filter_map of rows)) rows
  rows_held [] apart = tt
  rows_held (row ∷ rows) apart =
      let es = filter_map of rows in (
        (λ k x is. subst (λ r. find R k (cons_option r es) ≡ Some x) (sym is)
            (ap (λ b. cond b (Some x) (find R k es)) ((eq_by_cmp_equiv o.total).refl k))),
        held_more rows (of row) es apart (rows_held rows (rest_apart (of row) es apart)),
      )
