-- Ordered maps as finite maps.
use Rattle.std.proofs.Common.{◌≡◌, cond, List, [], ◌∷◌, refl, sym, ap}
use Rattle.std.proofs.Common.{◌∙◌}
use Rattle.std.specs.Prelude.{Some, None, option_map}
use Rattle.std.specs.declared.cmp.Ordering.{Ordering}
use Rattle.std.specs.Ordering.{eq_by_cmp}
use Rattle.std.specs.Cmp.{eq_by_cmp_equiv}
use Rattle.std.specs.Map.{lookup}
use Rattle.std.specs.BTreeMap as tree
use Rattle.std.specs.BTreeMap.{BTreeMap, is_at}
use Rattle.std.specs.FinMap.{get, insert, remove, find, get-from_entries, get-remove}
use Rattle.reg_maps.specs.Maps.{replaced, update, finite_map}
use Rattle.reg_maps.proofs.MapLaws.{IsKeyOrder, same_at, get-at_insert}

-- two words for one search
pub find_is : {K X : Type 0} (R : K → K → Ordering) (q : K) (es : List (K × X))
    → find R q es ≡ lookup (is_at (R q)) es
find_is R q [] = refl
find_is R q (e ∷ es) = ap (cond (is_at (R q) e.0) (Some e.1)) (find_is R q es)

module _ {K X : Type 0} {R : K → K → Ordering} (o : IsKeyOrder R) where
  -- what a map has at a key
  pub get-finite_map : (m : BTreeMap K X) (q : K) → get (finite_map R m) q ≡ tree.get R m q
  get-finite_map m q = get-from_entries o.total m.entries q ∙ find_is R q m.entries

  -- with one row put
  pub finite_map-insert : (m n : BTreeMap K X) (k : K) (v : X)
      → ((q : K) → tree.get R n q ≡ cond (is_at (R k) q) (Some v) (tree.get R m q))
      → finite_map R n ≡ insert (finite_map R m) k v
  finite_map-insert m n k v h = same_at o _ _ (λ q.
      get-finite_map n q ∙ h q
      ∙ ap (λ b. cond b (Some v) (tree.get R m q)) ((eq_by_cmp_equiv o.total).symm k q)
      ∙ sym (get-at_insert o (finite_map R m) k v q
      ∙ ap (cond (eq_by_cmp R q k) (Some v)) (get-finite_map m q)))

  -- with one row taken away
  pub finite_map-remove : (m n : BTreeMap K X) (k : K)
      → ((q : K) → tree.get R n q ≡ cond (is_at (R k) q) None (tree.get R m q))
      → finite_map R n ≡ remove (finite_map R m) k
  finite_map-remove m n k h = same_at o _ _ (λ q.
      get-finite_map n q ∙ h q
      ∙ ap (λ b. cond b None (tree.get R m q)) ((eq_by_cmp_equiv o.total).symm k q)
      ∙ sym (get-remove o.total (finite_map R m) k q
      ∙ ap (cond (eq_by_cmp R q k) None) (get-finite_map m q)))

  -- with one row replaced
  pub finite_map-update : (m n : BTreeMap K X) (k : K) (f : X → X) (x : X)
      → tree.get R m k ≡ Some x
      → ((q : K) → tree.get R n q ≡ cond (is_at (R k) q) (Some (f x)) (tree.get R m q))
      → finite_map R n ≡ update (finite_map R m) k f
  finite_map-update m n k f x there h =
      finite_map-insert m n k (f x) h
      ∙ sym (ap (λ r. replaced (finite_map R m) k (option_map f r))
      (get-finite_map m k ∙ there))

  -- where there is none, a replacement changes nothing
  pub finite_map-absent : (m : BTreeMap K X) (k : K) (f : X → X) → tree.get R m k ≡ None
      → update (finite_map R m) k f ≡ finite_map R m
  finite_map-absent m k f absent =
      ap (λ r. replaced (finite_map R m) k (option_map f r)) (get-finite_map m k ∙ absent)
