-- A map whose values are changed, each by its key.
use Rattle.std.proofs.Common.{◌≡◌, true, false, cond}
use Rattle.std.proofs.Common.{Option, Some, None, option_map, option_and_then, refl, sym, ap, ◌∙◌}
use Rattle.std.specs.FinMap.{FinMap, get, insert}
use Rattle.std.specs.Ordering.{eq_by_cmp}
use Rattle.std.specs.declared.cmp.Ordering.{Ordering}
use Rattle.reg_maps.specs.Maps.{select, update}
use Rattle.reg_maps.proofs.MapLaws.{IsKeyOrder, get-at_insert, get-select, get-update, same_at, tied}

-- ---- Values that may be missing

pub then_some : {X Y : Type 0} (f : X → Y) (r : Option X)
    → option_and_then (λ x. Some (f x)) r ≡ option_map f r
then_some f None = refl
then_some f (Some x) = refl

pub map_map : {X Y Z : Type 0} (f : X → Y) (g : Y → Z) (r : Option X)
    → option_map g (option_map f r) ≡ option_map (λ x. g (f x)) r
map_map f g None = refl
map_map f g (Some x) = refl

map_same : {X Y : Type 0} (f g : X → Y) → ((x : X) → f x ≡ g x) → (r : Option X)
    → option_map f r ≡ option_map g r
map_same f g same None = refl
map_same f g same (Some x) = ap (λ y. Some y) (same x)

then_mapped : {X Y Z : Type 0} (f : X → Y) (p : Y → Option Z) (r : Option X)
    → option_and_then p (option_map f r) ≡ option_and_then (λ x. p (f x)) r
then_mapped f p None = refl
then_mapped f p (Some x) = refl

-- ---- Maps

abbrev pub mapped : {K X Y : Type 0} {R : K → K → Ordering} → (K → X → Y) → FinMap R X
    → FinMap R Y
mapped f m = select (λ k x. Some (f k x)) m

module _ {K X Y : Type 0} {R : K → K → Ordering} (o : IsKeyOrder R) where
  pub get-mapped : (f : K → X → Y) (m : FinMap R X) (k : K)
      → get (mapped f m) k ≡ option_map (f k) (get m k)
  get-mapped f m k = get-select o (λ k x. Some (f k x)) m k ∙ then_some (f k) (get m k)

  pub select-mapped : {Z : Type 0} (p : K → Y → Option Z) (f : K → X → Y) (m : FinMap R X)
      → select p (mapped f m) ≡ select (λ k x. p k (f k x)) m
  select-mapped p f m = same_at o _ _ (λ q.
      get-select o p (mapped f m) q ∙ ap (option_and_then (p q)) (get-mapped f m q)
      ∙ then_mapped (f q) (p q) (get m q)
      ∙ sym (get-select o (λ k x. p k (f k x)) m q))

  pub mapped-insert : (f : K → X → Y) (m : FinMap R X) (k : K) (x : X)
      → mapped f (insert m k x) ≡ insert (mapped f m) k (f k x)
  mapped-insert f m k x = same_at o _ _ (λ q.
      get-mapped f (insert m k x) q ∙ ap (option_map (f q)) (get-at_insert o m k x q)
      ∙ elim (eq_by_cmp R q k) as
      (λ b. eq_by_cmp R q k ≡ b
      → option_map (f q) (cond b (Some x) (get m q))
      ≡ cond b (Some (f k x)) (get (mapped f m) q)) [
        | true ↦ λ t. ap (λ k. Some (f k x)) (tied o q k t)
        | false ↦ λ t. sym (get-mapped f m q)
      ] refl
      ∙ sym (get-at_insert o (mapped f m) k (f k x) q))

  -- where what a key has is replaced, and that goes with the change
  pub mapped-update : (f : K → X → Y) (m : FinMap R X) (k : K) (g : X → X) (h : Y → Y)
      → ((x : X) → f k (g x) ≡ h (f k x))
      → mapped f (update m k g) ≡ update (mapped f m) k h
  mapped-update f m k g h same = same_at o _ _ (λ q.
      get-mapped f (update m k g) q ∙ ap (option_map (f q)) (get-update o m k g q)
      ∙ elim (eq_by_cmp R q k) as
      (λ b. eq_by_cmp R q k ≡ b
      → option_map (f q) (cond b (option_map g (get m k)) (get m q))
      ≡ cond b (option_map h (get (mapped f m) k)) (get (mapped f m) q)) [
        | true ↦ λ t.
            ap (λ q. option_map (f q) (option_map g (get m k))) (tied o q k t)
            ∙ map_map g (f k) (get m k)
            ∙ map_same (λ x. f k (g x)) (λ x. h (f k x)) same (get m k)
            ∙ sym (map_map (f k) h (get m k))
            ∙ ap (option_map h) (sym (get-mapped f m k))
        | false ↦ λ t. sym (get-mapped f m q)
      ] refl
      ∙ sym (get-update o (mapped f m) k h q))

  -- where two changes are the same but for what one key has
  pub mapped-but : (f g : K → X → Y) (m : FinMap R X) (k : K) (h : Y → Y)
      → ((q : K) → eq_by_cmp R q k ≡ false → (x : X) → f q x ≡ g q x)
      → ((x : X) → f k x ≡ h (g k x))
      → mapped f m ≡ update (mapped g m) k h
  mapped-but f g m k h others here = same_at o _ _ (λ q.
      get-mapped f m q
      ∙ elim (eq_by_cmp R q k) as
      (λ b. eq_by_cmp R q k ≡ b
      → option_map (f q) (get m q)
      ≡ cond b (option_map h (get (mapped g m) k)) (get (mapped g m) q)) [
        | true ↦ λ t.
            ap (λ q. option_map (f q) (get m q)) (tied o q k t)
            ∙ map_same (f k) (λ x. h (g k x)) here (get m k)
            ∙ sym (map_map (g k) h (get m k))
            ∙ ap (option_map h) (sym (get-mapped g m k))
        | false ↦ λ t.
            map_same (f q) (g q) (others q t) (get m q) ∙ sym (get-mapped g m q)
      ] refl
      ∙ sym (get-update o (mapped g m) k h q))

-- a change that changes nothing
pub mapped-same : {K X : Type 0} {R : K → K → Ordering} (o : IsKeyOrder R) (f : K → X → X)
    (m : FinMap R X) → ((k : K) (x : X) → get m k ≡ Some x → f k x ≡ x) → mapped f m ≡ m
mapped-same {K = K} {X = X} o f m same =
    same_at o _ _ (λ q. get-mapped o f m q ∙ go q (get m q) refl)
  where
    go : (q : K) (r : Option X) → get m q ≡ r → option_map (f q) r ≡ r
    go q None is = refl
    go q (Some x) is = ap (λ y. Some y) (same q x is)
