-- Lists in the rows of a map.
use Rattle.std.proofs.Common.{◌≡◌, Bool, true, false, cond, List, ◌++◌, [], ◌∷◌, refl, sym, ap, ◌∙◌}
use Rattle.std.specs.Prelude.{Option, Some, None, IsSome, if◌then◌else◌}
use Rattle.std.specs.FinMap.{FinMap, get, insert}
use Rattle.std.specs.Global.{Vec}
use Rattle.std.specs.Ordering.{eq_by_cmp}
use Rattle.std.specs.declared.cmp.Ordering.{Ordering}
use Rattle.reg_maps.proofs.MapLaws.{IsKeyOrder, get-at_insert, tied}
use Rattle.reg_store.specs.Maps.{HasOneMore, HaveSameItems, items_of, list_at}

module _ {K X : Type 0} {R : K → K → Ordering} (o : IsKeyOrder R) (m : FinMap R (Vec X)) (k : K)
    (list : Vec X) where
  list-put : (f : List X → List X) → list.items ≡ f (list_at m k) → (q : K)
      → list_at (insert m k list) q ≡ (if eq_by_cmp R q k then f (list_at m q) else list_at m q)
  list-put f is q = ap items_of (get-at_insert o m k list q) ∙ by (eq_by_cmp R q k) refl
    where
      by : (b : Bool) → eq_by_cmp R q k ≡ b
          → items_of (cond b (Some list) (get m q)) ≡ (if b then f (list_at m q) else list_at m q)
      by true t = is ∙ ap (λ q. f (list_at m q)) (sym (tied o q k t))
      by false t = refl

  -- with an item more
  pub more-put : (item : X) → list.items ≡ list_at m k ++ item ∷ []
      → HasOneMore m (insert m k list) k item
  more-put item is q = list-put (λ items. items ++ item ∷ []) is q

  -- with the same items
  pub same-put : list.items ≡ list_at m k → HaveSameItems m (insert m k list)
  same-put is q =
      list-put (λ items. items) is q
      ∙ elim (eq_by_cmp R q k) as
      (λ b. (if b then list_at m q else list_at m q) ≡ list_at m q) [ true ↦ refl | false ↦ refl ]

-- what is there is not absent
pub not_there : {X P : Type 0} (row : Option X) → IsSome row → row ≡ None → P
not_there None some none = absurd (cc)
not_there (Some x) some none = absurd (cc)
