-- Maps of maps as finite maps by pairs of keys.
use Rattle.std.proofs.Common.{◌≡◌, true, false, cond, ◌&&◌, T, List, [], ◌∷◌, ◌++◌, refl, sym, ap}
use Rattle.std.proofs.Common.{subst, ◌∙◌}
use Rattle.std.specs.Prelude.{Option, Some, None, option_map}
use Rattle.std.specs.Prelude.{option_and_then}
use Rattle.std.specs.declared.cmp.Ordering.{Ordering}
use Rattle.std.specs.Ordering.{eq_by_cmp}
use Rattle.std.specs.Cmp.{eq_by_cmp_equiv}
use Rattle.std.specs.Map.{lookup}
use Rattle.std.specs.BTreeMap as tree
use Rattle.std.specs.BTreeMap.{BTreeMap, is_at, IsOrdered}
use Rattle.std.specs.FinMap.{FinMap, get, insert, remove, find, is_sorted, get-from_entries}
use Rattle.std.specs.FinMap.{get-remove}
use Rattle.std.specs.FinMap.Entries.{below_all}
use Rattle.reg_maps.specs.Maps.{pair_cmp, replaced, update, finite_map}
use Rattle.reg_maps.specs.Groups.{group_rows, rows_in, pair_map}
use Rattle.reg_maps.proofs.MapLaws.{IsKeyOrder, pair_keys, same_at, get-update, get-at_insert, tied}
use Rattle.reg_maps.proofs.Tests.{first, second}
use Rattle.reg_maps.proofs.Orderings.{tie}
use Rattle.reg_maps.proofs.Ascending.{find-below, is_sorted_from_ascending}
use Rattle.reg_maps.proofs.FiniteMaps.Ordered.{find_is, get-finite_map}

-- ---- One search after the other

-- the first of two rows that is there
abbrev or_else : {X : Type 0} → Option X → Option X → Option X
or_else None y = y
or_else (Some x) y = Some x

or_none : {X : Type 0} (x : Option X) → or_else x None ≡ x
or_none None = refl
or_none (Some x) = refl

-- a search of two lists, one after the other
find-both : {K X : Type 0} (R : K → K → Ordering) (q : K) (xs ys : List (K × X))
    → find R q (xs ++ ys) ≡ or_else (find R q xs) (find R q ys)
find-both R q [] ys = refl
find-both R q (e ∷ xs) ys =
    elim (eq_by_cmp R q e.0) as
    (λ b. cond b (Some e.1) (find R q (xs ++ ys))
    ≡ or_else (cond b (Some e.1) (find R q xs)) (find R q ys)) [
      | true ↦ refl
      | false ↦ find-both R q xs ys
    ]

-- ---- What a map of maps has at two keys

-- the row of a group that may be absent
abbrev pub row_of : {B V : Type 0} → (B → B → Ordering) → Option (BTreeMap B V) → B → Option V
row_of Q group b = option_and_then (λ group. tree.get Q group b) group

module _ {A B V : Type 0} (P : A → A → Ordering) (Q : B → B → Ordering) where
  -- what a group has at two keys
  pub find-group : (q : A × B) (a : A) (rs : List (B × V))
      → find (pair_cmp P Q) q (group_rows a rs)
      ≡ cond (is_at (P q.0) a) (lookup (is_at (Q q.1)) rs) None
  find-group q a [] =
      elim (is_at (P q.0) a) as
      (λ b. ◌≡◌ {A = Option V} None (cond b None None)) [ true ↦ refl | false ↦ refl ]
  find-group q a (r ∷ rs) =
      ap (λ b. cond b (Some r.1) (find (pair_cmp P Q) q (group_rows a rs)))
      (tie (P q.0 a) (Q q.1 r.0))
      ∙ ap (cond (is_at (P q.0) a && is_at (Q q.1) r.0) (Some r.1)) (find-group q a rs)
      ∙ elim (is_at (P q.0) a) as
      (λ b. cond (b && is_at (Q q.1) r.0) (Some r.1) (cond b (lookup (is_at (Q q.1)) rs) None)
      ≡ cond b (cond (is_at (Q q.1) r.0) (Some r.1)
      (lookup (is_at (Q q.1)) rs)) None) [ true ↦ refl | false ↦ refl ]

  -- what all groups have at two keys
  find-groups : IsKeyOrder P → (q : A × B) (es : List (A × BTreeMap B V)) → T (is_sorted P es)
      → find (pair_cmp P Q) q (rows_in es) ≡ row_of Q (lookup (is_at (P q.0)) es) q.1
  find-groups o q [] h = refl
  find-groups o q (e ∷ es) h =
      find-both (pair_cmp P Q) q (group_rows e.0 e.1.entries) (rows_in es)
      ∙ ap (λ x. or_else x (find (pair_cmp P Q) q (rows_in es))) (find-group q e.0 e.1.entries)
      ∙ ap (or_else (cond (is_at (P q.0) e.0) (lookup (is_at (Q q.1)) e.1.entries) None))
      (find-groups o q es (second _ _ h))
      ∙ elim (is_at (P q.0) e.0) as (λ b. is_at (P q.0) e.0 ≡ b
      → or_else (cond b (lookup (is_at (Q q.1)) e.1.entries) None)
      (row_of Q (lookup (is_at (P q.0)) es) q.1)
      ≡ row_of Q (cond b (Some e.1) (lookup (is_at (P q.0)) es)) q.1) [
        | true ↦ λ t.
            let none : lookup (is_at (P q.0)) es ≡ None =
            sym (find_is P q.0 es)
            ∙ find-below P q.0 es
            (subst (λ k. T (below_all P k es)) (sym (tied o q.0 e.0 t)) (first _ _ h)) in
            ap (λ x. or_else (lookup (is_at (Q q.1)) e.1.entries) (row_of Q x q.1)) none
            ∙ or_none (lookup (is_at (Q q.1)) e.1.entries)
        | false ↦ λ t. refl
      ] refl

-- a map without a row is the same when the row is taken away
remove-none : {K X : Type 0} {R : K → K → Ordering} → IsKeyOrder R → (m : FinMap R X) (k : K)
    → get m k ≡ None → remove m k ≡ m
remove-none {R = R} o m k none = same_at o _ _ (λ q.
    get-remove o.total m k q
    ∙ elim (eq_by_cmp R q k) as (λ b. eq_by_cmp R q k ≡ b → cond b None (get m q) ≡ get m q) [
      | true ↦ λ t. sym (ap (get m) (tied o q k t) ∙ none)
      | false ↦ λ t. refl
    ] refl)

-- and where the row is put and taken away again
pub remove-inserted : {K X : Type 0} {R : K → K → Ordering} → IsKeyOrder R
    → (m : FinMap R X) (k : K) (x : X) → get m k ≡ None
    → remove (insert m k x) k ≡ m
remove-inserted {R = R} o m k x none = same_at o _ _ (λ q.
    get-remove o.total (insert m k x) k q
    ∙ ap (cond (eq_by_cmp R q k) None) (get-at_insert o m k x q)
    ∙ elim (eq_by_cmp R q k) as
    (λ b. eq_by_cmp R q k ≡ b → cond b None (cond b (Some x) (get m q)) ≡ get m q) [
      | true ↦ λ t. sym (ap (get m) (tied o q k t) ∙ none)
      | false ↦ λ t. refl
    ] refl)

module _ {A B V : Type 0} {P : A → A → Ordering} {Q : B → B → Ordering} (o : IsKeyOrder P)
    (p : IsKeyOrder Q) where
  -- what a map of maps has at two keys
  pub get-pair_map : (m : BTreeMap A (BTreeMap B V)) → IsOrdered P m → (q : A × B)
      → get (pair_map P Q m) q ≡ row_of Q (tree.get P m q.0) q.1
  get-pair_map m h q =
      get-from_entries (pair_keys o p).total (rows_in m.entries) q
      ∙ find-groups P Q o q m.entries (is_sorted_from_ascending P m.entries h)

  -- and in a group, or where there is none
  pub get-group : (m : BTreeMap A (BTreeMap B V)) → IsOrdered P m
      → (k : A) (g : Option (BTreeMap B V)) → tree.get P m k ≡ g
      → (j : B) → get (pair_map P Q m) (k, j) ≡ row_of Q g j
  get-group m h k g was j = get-pair_map m h (k, j) ∙ ap (λ group. row_of Q group j) was

  -- ---- One group put in the place of another, or of none

  module _ (m n : BTreeMap A (BTreeMap B V)) (h : IsOrdered P m) (i : IsOrdered P n)
      (k : A) (g : Option (BTreeMap B V)) (w : BTreeMap B V) (was : tree.get P m k ≡ g)
      (put : (q : A) → tree.get P n q ≡ cond (is_at (P k) q) (Some w) (tree.get P m q)) where
    -- a group that differs at one key
    at_key : (j : B) (x : Option V)
        → ((b : B) → tree.get Q w b ≡ cond (is_at (Q j) b) x (row_of Q g b))
        → (q : A × B)
        → get (pair_map P Q n) q
        ≡ cond (eq_by_cmp (pair_cmp P Q) q (k, j)) x (get (pair_map P Q m) q)
    at_key j x rows q =
        get-pair_map n i q ∙ ap (λ group. row_of Q group q.1) (put q.0)
        ∙ elim (is_at (P k) q.0) as (λ t. is_at (P k) q.0 ≡ t
        → row_of Q (cond t (Some w) (tree.get P m q.0)) q.1
        ≡ cond (t && is_at (Q j) q.1) x (row_of Q (tree.get P m q.0) q.1)) [
          | true ↦ λ t.
              let old : tree.get P m q.0 ≡ g = ap (tree.get P m) (sym (tied o k q.0 t)) ∙ was in
              rows q.1 ∙ ap (λ group. cond (is_at (Q j) q.1) x (row_of Q group q.1)) (sym old)
          | false ↦ λ t. refl
        ] refl
        ∙ (λ s. cond
        ((sym (tie (P k q.0) (Q j q.1))
        ∙ (eq_by_cmp_equiv (pair_keys o p).total).symm (k, j) q) s) x (sym (get-pair_map m h q) s))

    -- with one row put or taken away
    pub pair_map-insert : (j : B) (v : V)
        → ((b : B) → tree.get Q w b ≡ cond (is_at (Q j) b) (Some v) (row_of Q g b))
        → pair_map P Q n ≡ insert (pair_map P Q m) (k, j) v
    pair_map-insert j v rows = same_at (pair_keys o p) _ _ (λ q.
        at_key j (Some v) rows q ∙ sym (get-at_insert (pair_keys o p) (pair_map P Q m) (k, j) v q))

    -- with the row at one key changed, if there is one
    pub pair_map-change : (j : B) (f : V → V) (old : BTreeMap B V) → g ≡ Some old
        → finite_map Q w ≡ update (finite_map Q old) j f
        → pair_map P Q n ≡ update (pair_map P Q m) (k, j) f
    pair_map-change j f old is changed = same_at (pair_keys o p) _ _ (λ q.
        at_key j (option_map f (row_of Q g j)) rows q
        ∙ ap (λ r. cond (eq_by_cmp (pair_cmp P Q) q (k, j)) (option_map f r)
        (get (pair_map P Q m) q)) (sym (get-group m h k g was j))
        ∙ sym (get-update (pair_keys o p) (pair_map P Q m) (k, j) f q))
      where
        rows : (b : B) → tree.get Q w b
            ≡ cond (is_at (Q j) b) (option_map f (row_of Q g j)) (row_of Q g b)
        rows b =
            sym (get-finite_map p w b) ∙ ap (λ m. get m b) changed
            ∙ get-update p (finite_map Q old) j f b
            ∙ (λ i. cond ((eq_by_cmp_equiv p.total).symm b j i)
            (option_map f (get-finite_map p old j i)) (get-finite_map p old b i))
            ∙ ap (λ group. cond (is_at (Q j) b) (option_map f (row_of Q group j)) (row_of Q group b))
            (sym is)

    pub pair_map-remove : (j : B)
        → ((b : B) → tree.get Q w b ≡ cond (is_at (Q j) b) None (row_of Q g b))
        → pair_map P Q n ≡ remove (pair_map P Q m) (k, j)
    pair_map-remove j rows = same_at (pair_keys o p) _ _ (λ q.
        at_key j None rows q ∙ sym (get-remove (pair_keys o p).total (pair_map P Q m) (k, j) q))

    -- with the same rows
    pub pair_map-same : ((b : B) → tree.get Q w b ≡ row_of Q g b) → pair_map P Q n ≡ pair_map P Q m
    pair_map-same rows = same_at (pair_keys o p) _ _ (λ q.
        get-pair_map n i q ∙ ap (λ group. row_of Q group q.1) (put q.0)
        ∙ elim (is_at (P k) q.0) as (λ t. is_at (P k) q.0 ≡ t
        → row_of Q (cond t (Some w) (tree.get P m q.0)) q.1 ≡ row_of Q (tree.get P m q.0) q.1) [
          | true ↦ λ t. rows q.1
              ∙ ap (λ group. row_of Q group q.1)
              (sym (ap (tree.get P m) (sym (tied o k q.0 t)) ∙ was))
          | false ↦ λ t. refl
        ] refl
        ∙ sym (get-pair_map m h q))

  -- what is not there is not changed
  pub update-absent : (m : BTreeMap A (BTreeMap B V)) (q : A × B) (f : V → V)
      → get (pair_map P Q m) q ≡ None
      → update (pair_map P Q m) q f ≡ pair_map P Q m
  update-absent m q f none = ap (λ r. replaced (pair_map P Q m) q (option_map f r)) none

  -- nor taken away
  pub remove-absent : (m : BTreeMap A (BTreeMap B V)) (q : A × B) → get (pair_map P Q m) q ≡ None
      → remove (pair_map P Q m) q ≡ pair_map P Q m
  remove-absent m q none = remove-none (pair_keys o p) (pair_map P Q m) q none
