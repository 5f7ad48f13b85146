-- What a table holds after its rows are moved, added to, taken away and changed.
use Rattle.std.proofs.Common.{◌≡◌, if◌then◌else◌, Bool, true, false, cond, not, List, [], ◌∷◌}
use Rattle.std.proofs.Common.{map, filter}
use Rattle.std.proofs.Common.{refl, sym, ap, ap₂, subst, ◌∙◌, Option, Some, None, IsSome, is_some}
use Rattle.std.proofs.Common.{IsPermutation, option_map, option_and_then, filter_map}
use Rattle.std.specs.List.{AllByRecursion, IsDistinct, cons_option}
use Rattle.std.specs.declared.cmp.Ordering.{Ordering}
use Rattle.std.specs.Ordering.{eq_by_cmp}
use Rattle.std.specs.FinMap.{FinMap, get, insert, remove, empty, find, from_entries}
use Rattle.std.specs.FinMap.{get-from_entries, get-remove}
use Rattle.reg_maps.specs.Maps.{only_if, select, update, replaced}
use Rattle.reg_maps.specs.RowMaps.{held_in, AreApart, IsTable, PassesAt, PassesWhere, changed_where}
use Rattle.reg_maps.proofs.MapLaws.{IsKeyOrder, tied, same_at, get-select, get-update}
use Rattle.reg_maps.proofs.RowMaps.Held.{IsHeld, rows_held}
use Rattle.reg_maps.proofs.RowMaps.Lists.{all_permuted, all_filtered, IsPermutation-filter_map, filter_map-filter}
use Rattle.reg_maps.proofs.RowMaps.Entries.{free_from_none, apart_more, apart_permuted, find_permuted, apart_filtered, find_filtered, changed_by, keys_changed, find_changed}

-- the table of no rows, which holds nothing
pub empty_table : {A K X : Type 0} (R : K → K → Ordering) (of : A → Option (K × X))
    → IsTable R of [] × (held_in {R = R} of [] ≡ empty)
unfolding IsDistinct
empty_table R of = (record { reads = tt; distinct = tt }, refl)

module _ {K X : Type 0} {R : K → K → Ordering} (o : IsKeyOrder R) where
  -- maps of entries in which each key has the same value
  pub same_held : (es fs : List (K × X)) → ((q : K) → find R q es ≡ find R q fs)
      → from_entries {R = R} es ≡ from_entries fs
  same_held es fs same = same_at o _ _ (λ q.
      get-from_entries o.total es q ∙ same q ∙ sym (get-from_entries o.total fs q))

-- a row that passes the test, changed
abbrev changed_row : {A : Type 0} → (A → Bool) → (A → A) → A → A
changed_row test put row = if test row then put row else row

-- a value that is changed where it passes
abbrev changed_value : {K X : Type 0} → (K → X → Bool) → (X → X) → K → X → X
changed_value p f k x = if p k x then f x else x

without : {X : Type 0} (b : Bool) (r : Option X)
    → option_and_then (λ x. only_if (not b) x) r ≡ cond b None r
without true None = refl
without true (Some x) = refl
without false None = refl
without false (Some x) = refl

module _ {A K X : Type 0} {R : K → K → Ordering} (o : IsKeyOrder R) {of : A → Option (K × X)} where
  -- the same rows in another order
  pub same_rows : {old new : List A} → IsPermutation old new → IsTable R of old
      → IsTable R of new × (held_in {R = R} of new ≡ held_in of old)
  same_rows {old} {new} moved table =
      let es = filter_map of old in
      let fs = filter_map of new in
      let entries_moved = IsPermutation-filter_map of old new moved in (
        record {
          reads = all_permuted (λ row. IsSome (of row)) old new moved table.reads;
          distinct = apart_permuted o es fs entries_moved table.distinct;
        },
        same_held o fs es (λ q. sym (find_permuted o q es fs entries_moved table.distinct)),
      )

  one_more : {old : List A} {row : A} {k : K} {x : X} → IsTable R of old → of row ≡ Some (k, x)
      → get (held_in {R = R} of old) k ≡ None → IsTable R of (row ∷ old)
  one_more {old} {row} {k} {x} table is none = record {
    reads = (ap is_some is, table.reads);
    distinct = subst (λ r. AreApart R (cons_option r (filter_map of old)))
        (sym is) (apart_more R (k, x) (filter_map of old)
        (free_from_none R k (filter_map of old)
        (sym (get-from_entries o.total (filter_map of old) k) ∙ none)) table.distinct);
  }

  -- one row more, whose key is new
  pub added : {old new : List A} {row : A} {k : K} {x : X} → IsTable R of old
      → of row ≡ Some (k, x) → get (held_in {R = R} of old) k ≡ None
      → IsPermutation (row ∷ old) new
      → IsTable R of new × (held_in {R = R} of new ≡ insert (held_in of old) k x)
  added {old} table is none moved =
      let after = same_rows moved (one_more table is none) in (
        after.0,
        after.1 ∙ ap (λ r. from_entries (cons_option r (filter_map of old))) is,
      )

  -- the rows that pass a test of the key and the value
  pub chosen : {old : List A} (test : A → Bool) (p : K → X → Bool) → IsTable R of old
      → PassesWhere of test p
      → IsTable R of (filter test old)
      × (held_in of (filter test old) ≡ select (λ k x. only_if (p k x) x) (held_in {R = R} of old))
  chosen {old} test p table agree =
      let es = filter_map of old in
      let is = filter_map-filter of test (λ e. p e.0 e.1) (λ row e. agree row e.0 e.1) old in (
        record {
          reads = all_filtered (λ row. IsSome (of row)) test old table.reads;
          distinct = subst (AreApart R) (sym is) (apart_filtered o p es table.distinct);
        },
        same_at o _ _ (λ q.
            get-from_entries o.total (filter_map of (filter test old)) q
            ∙ ap (find R q) is ∙ find_filtered o p q es table.distinct
            ∙ ap (option_and_then (λ x. only_if (p q x) x)) (sym (get-from_entries o.total es q))
            ∙ sym (get-select o (λ k x. only_if (p k x) x) (held_in of old) q)),
      )

  -- ---- One key's row taken away

  -- the rows without those of a key
  pub removed : {old new : List A} (test : A → Bool) (k : K) → IsTable R of old
      → PassesAt R of test k → IsPermutation (filter (λ row. not (test row)) old) new
      → IsTable R of new × (held_in {R = R} of new ≡ remove (held_in of old) k)
  removed {old} test k table at moved =
      let kept = chosen (λ row. not (test row)) (λ key x. not (eq_by_cmp R key k)) table
      (λ row key x is. ap not (at row key x is)) in
      let after = same_rows moved kept.0 in (
        after.0,
        after.1 ∙ kept.1 ∙ same_at o _ _ (λ q.
            get-select o (λ key x. only_if (not (eq_by_cmp R key k)) x) (held_in of old) q
            ∙ without (eq_by_cmp R q k) (get (held_in of old) q)
            ∙ sym (get-remove o.total (held_in of old) k q)),
      )

  -- ---- Rows changed

  module _ (test : A → Bool) (put : A → A) (p : K → X → Bool) (f : X → X) where
    module _ (es : List (K × X)) (agree : PassesWhere of test p)
        (puts : (row : A) (k : K) (x : X) → of row ≡ Some (k, x) → find R k es ≡ Some x
        → p k x ≡ true → of (put row) ≡ Some (k, f x)) where
      row_changed : (row : A) (e : K × X) → IsHeld o of es row → of row ≡ Some e
          → of (changed_row test put row) ≡ Some (changed_by o (changed_value p f) e)
      row_changed row e held is =
          ap (λ b. of (cond b (put row) row)) (agree row e.0 e.1 is)
          ∙ elim (p e.0 e.1) as (λ b. p e.0 e.1 ≡ b
          → of (cond b (put row) row) ≡ Some (e.0, cond b (f e.1) e.1)) [
            | true ↦ λ t. puts row e.0 e.1 is (held e.0 e.1 is) t
            | false ↦ λ t. is
          ] refl

      rows_changed : (rows : List A) → AllByRecursion (λ row. IsSome (of row)) rows
          → AllByRecursion (IsHeld o of es) rows
          → AllByRecursion (λ row. IsSome (of row)) (map (changed_row test put) rows)
          × (filter_map of (map (changed_row test put) rows)
          ≡ map (changed_by o (changed_value p f)) (filter_map of rows))
      rows_changed [] all held = (tt, refl)
      rows_changed (row ∷ rows) all held =
          let rest = rows_changed rows all.1 held.1 in
          elim (of row) as (λ r. of row ≡ r → IsSome r
          → AllByRecursion (λ row. IsSome (of row)) (map (changed_row test put) (row ∷ rows))
          × (filter_map of (map (changed_row test put) (row ∷ rows))
          ≡ map (changed_by o (changed_value p f)) (cons_option r (filter_map of rows)))) [
            | None ↦ λ is some. absurd (cc)
            | Some e ↦ λ is some.
                let now = row_changed row e held.0 is in
                ((ap is_some now, rest.0), ap₂ cons_option now rest.1)
          ] refl all.0

    -- the rows with those that pass changed, each to a row of its key and of another value, where
    -- its value is the one that the table has
    pub changed : {old new : List A} → IsTable R of old → PassesWhere of test p
        → ((row : A) (k : K) (x : X) → of row ≡ Some (k, x)
        → get (held_in {R = R} of old) k ≡ Some x → p k x ≡ true → of (put row) ≡ Some (k, f x))
        → IsPermutation (map (λ row. if test row then put row else row) old) new
        → IsTable R of new × (held_in {R = R} of new ≡ changed_where p f (held_in of old))
    changed {old} table agree puts moved =
        let es = filter_map of old in
        let now = rows_changed es agree
        (λ row k x is here. puts row k x is (get-from_entries o.total es k ∙ here))
        old table.reads (rows_held o of old table.distinct) in
        let between : IsTable R of (map (changed_row test put) old) = record {
          reads = now.0;
          distinct = subst (AreApart R) (sym now.1)
              (subst (IsDistinct (eq_by_cmp R)) (sym (keys_changed o (changed_value p f) es))
              table.distinct);
        } in
        let after = same_rows moved between in (
          after.0,
          after.1 ∙ same_at o _ _ (λ q.
              get-from_entries o.total (filter_map of (map (changed_row test put) old)) q
              ∙ ap (find R q) now.1 ∙ find_changed o (changed_value p f) q es
              ∙ ap (option_and_then (λ x. Some (changed_value p f q x)))
              (sym (get-from_entries o.total es q))
              ∙ sym (get-select o (λ k x. Some (changed_value p f k x)) (held_in of old) q)),
        )

-- ---- A map with the values of one key changed

module _ {K X : Type 0} {R : K → K → Ordering} (o : IsKeyOrder R) (m : FinMap R X) (k : K) where
  -- where what passes is what a key has, that is another
  pub changed_alone : (p : K → X → Bool) (f : X → X)
      → ((q : K) (x : X) → get m q ≡ Some x → p q x ≡ eq_by_cmp R q k)
      → changed_where p f m ≡ update m k f
  changed_alone p f only = same_at o _ _ (λ q.
      get-select o (λ key x. Some (if p key x then f x else x)) m q
      ∙ at q (get m q) refl ∙ sym (get-update o m k f q))
    where
      here : (q : K) (r : Option X) → get m q ≡ r → eq_by_cmp R q k ≡ true
          → option_map f r ≡ option_map f (get m k)
      here q r is t = ap (option_map f) (sym is ∙ ap (get m) (tied o q k t))

      at : (q : K) (r : Option X) → get m q ≡ r
          → option_and_then (λ x. Some (if p q x then f x else x)) r
          ≡ cond (eq_by_cmp R q k) (option_map f (get m k)) r
      at q None is = elim (eq_by_cmp R q k) as (λ b. eq_by_cmp R q k ≡ b
          → None ≡ cond b (option_map f (get m k)) None)
          [ true ↦ here q None is | false ↦ λ t. refl ] refl
      at q (Some x) is =
          ap (λ b. Some (cond b (f x) x)) (only q x is)
          ∙ elim (eq_by_cmp R q k) as (λ b. eq_by_cmp R q k ≡ b
          → Some (cond b (f x) x) ≡ cond b (option_map f (get m k)) (Some x))
          [ true ↦ here q (Some x) is | false ↦ λ t. refl ] refl

  -- and where there is one, it is this one
  pub changed_to : (x : X) → IsSome (get m k)
      → changed_where (λ key y. eq_by_cmp R key k) (λ y. x) m ≡ insert m k x
  changed_to x there =
      changed_alone (λ key y. eq_by_cmp R key k) (λ y. x) (λ q y is. refl)
      ∙ put_in (get m k) there
    where
      put_in : (r : Option X) → IsSome r → replaced m k (option_map (λ y. x) r) ≡ insert m k x
      put_in None there = absurd (cc)
      put_in (Some y) there = refl
