-- Which keys a map has after a row is inserted, replaced or taken away.
use Rattle.std.proofs.Common.{◌≡◌, Bool, true, false, cond, refl, sym, ap, subst, ◌∙◌}
use Rattle.std.specs.Prelude.{Option, Some, None, option_map, IsSome, is_some}
use Rattle.std.specs.declared.cmp.Ordering.{Ordering}
use Rattle.std.specs.Ordering.{eq_by_cmp}
use Rattle.std.specs.FinMap.{FinMap, get, insert, remove, contains_key}
use Rattle.reg_maps.specs.Maps.{update}
use Rattle.reg_maps.proofs.MapLaws.{IsKeyOrder, tied, get-at_insert, get-at_remove, get-inserted, get-update}

module _ {K X : Type 0} {R : K → K → Ordering} (o : IsKeyOrder R) (m : FinMap R X) (k : K) where
  -- the key that was inserted is there
  pub is_inserted : (v : X) → IsSome (get (insert m k v) k)
  is_inserted v = ap is_some (get-inserted o m k v)

  -- a key that was there is so after an insertion
  pub still_in : (v : X) (q : K) → IsSome (get m q) → IsSome (get (insert m k v) q)
  still_in v q there = ap is_some (get-at_insert o m k v q) ∙ by (eq_by_cmp R q k)
    where
      by : (b : Bool) → IsSome (cond b (Some v) (get m q))
      by true = refl
      by false = there

  -- what holds of each key holds of each key after an insertion
  pub each_key : (P : K → Type 0) (v : X) → ((q : K) → IsSome (get m q) → P q) → P k → (q : K)
      → IsSome (get (insert m k v) q) → P q
  each_key P v each new q there =
      by (eq_by_cmp R q k) refl (sym (ap is_some (get-at_insert o m k v q)) ∙ there)
    where
      by : (b : Bool) → eq_by_cmp R q k ≡ b → IsSome (cond b (Some v) (get m q)) → P q
      by true t there = subst P (sym (tied o q k t)) new
      by false t there = each q there

  -- a key that is there after a removal was there
  pub was_left : (q : K) → IsSome (get (remove m k) q) → IsSome (get m q)
  was_left q there =
      by (eq_by_cmp R q k) (sym (ap is_some (get-at_remove o m k q)) ∙ there)
    where
      by : (b : Bool) → IsSome (cond b None (get m q)) → IsSome (get m q)
      by true there = absurd (cc)
      by false there = there

  -- a test that the new row passes if the one in its place does is passed by each row after an
  -- insertion that did before; and so it is after a replacement that keeps what passes it
  pub insert_passes : (test : Option X → Bool) (v : X)
      → (test (get m k) ≡ true → test (Some v) ≡ true)
      → (q : K) → test (get m q) ≡ true → test (get (insert m k v) q) ≡ true
  insert_passes test v new q h = by (eq_by_cmp R q k) refl
    where
      by : (b : Bool) → eq_by_cmp R q k ≡ b → test (get (insert m k v) q) ≡ true
      by true t =
          ap test (get-at_insert o m k v q ∙ ap (λ b. cond b (Some v) (get m q)) t)
          ∙ new (subst (λ q. test (get m q) ≡ true) (tied o q k t) h)
      by false t =
          ap test (get-at_insert o m k v q ∙ ap (λ b. cond b (Some v) (get m q)) t) ∙ h

  pub update_passes : (test : Option X → Bool) (f : X → X)
      → ((x : X) → test (Some x) ≡ true → test (Some (f x)) ≡ true) → (q : K)
      → test (get m q) ≡ true → test (get (update m k f) q) ≡ true
  update_passes test f each q h = ap test (get-update o m k f q) ∙ by (eq_by_cmp R q k) refl
    where
      mapped : (r : Option X) → test r ≡ true → test (option_map f r) ≡ true
      mapped None h = h
      mapped (Some x) h = each x h

      by : (b : Bool) → eq_by_cmp R q k ≡ b
          → test (cond b (option_map f (get m k)) (get m q)) ≡ true
      by true t = mapped (get m k) (subst (λ q. test (get m q) ≡ true) (tied o q k t) h)
      by false t = h

  -- a key that was there is so after a replacement
  pub still_at : (f : X → X) (q : K) → IsSome (get m q) → IsSome (get (update m k f) q)
  still_at f q there = ap is_some (get-update o m k f q) ∙ by (eq_by_cmp R q k) refl
    where
      mapped : (r : Option X) → IsSome r → IsSome (option_map f r)
      mapped None h = absurd (cc)
      mapped (Some x) h = refl

      by : (b : Bool) → eq_by_cmp R q k ≡ b → IsSome (cond b (option_map f (get m k)) (get m q))
      by true t = mapped (get m k) (subst (λ q. IsSome (get m q)) (tied o q k t) there)
      by false t = there

  -- and a key that is there after a replacement was there
  pub was_at : (f : X → X) (q : K) → IsSome (get (update m k f) q) → IsSome (get m q)
  was_at f q there = by (eq_by_cmp R q k) refl (sym (ap is_some (get-update o m k f q)) ∙ there)
    where
      unmapped : (r : Option X) → IsSome (option_map f r) → IsSome r
      unmapped None h = absurd (cc)
      unmapped (Some x) h = refl

      by : (b : Bool) → eq_by_cmp R q k ≡ b
          → IsSome (cond b (option_map f (get m k)) (get m q)) → IsSome (get m q)
      by true t there =
          subst (λ q. IsSome (get m q)) (sym (tied o q k t)) (unmapped (get m k) there)
      by false t there = there

  -- a row in the place of one that stands leaves the keys
  pub contains-replaced : (x : X) → IsSome (get m k) → (q : K)
      → contains_key (insert m k x) q ≡ contains_key m q
  contains-replaced x there q =
      ap is_some (get-at_insert o m k x q) ∙ by (eq_by_cmp R q k) refl
    where
      by : (b : Bool) → eq_by_cmp R q k ≡ b
          → is_some (cond b (Some x) (get m q)) ≡ contains_key m q
      by true t = sym (ap (contains_key m) (tied o q k t) ∙ there)
      by false t = refl

  -- and so does a row that is changed
  pub contains-changed : (f : X → X) (q : K) → contains_key (update m k f) q ≡ contains_key m q
  contains-changed f q = ap is_some (get-update o m k f q) ∙ by (eq_by_cmp R q k) refl
    where
      mapped : (row : Option X) → is_some (option_map f row) ≡ is_some row
      mapped None = refl
      mapped (Some x) = refl

      by : (b : Bool) → eq_by_cmp R q k ≡ b
          → is_some (cond b (option_map f (get m k)) (get m q)) ≡ contains_key m q
      by true t = mapped (get m k) ∙ sym (ap (contains_key m) (tied o q k t))
      by false t = refl
