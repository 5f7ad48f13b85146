-- Ordered maps, and maps of maps, as lists of rows in order.
use Rattle.std.proofs.Common.{◌≡◌, ℕ, true, false, cond, T, List, [], ◌∷◌, ◌++◌, map}
use Rattle.std.proofs.Common.{refl, sym, ap, subst, ◌∙◌, append_assoc}
use Rattle.std.specs.Prelude.{Option, Some, None, IfSome, option_and_then, All}
use Rattle.std.specs.declared.cmp.Ordering.{Ordering}
use Rattle.std.specs.Ordering.{is_lt, ordering_then}
use Rattle.std.specs.Cmp.{IsTotalOrder}
use Rattle.std.specs.Map.{lookup, keys_of}
use Rattle.std.specs.List.{AllByRecursion}
use Rattle.std.specs.BTreeMap as tree
use Rattle.std.specs.BTreeMap.{BTreeMap, is_at, IsOrdered}
use Rattle.std.specs.FinMap.{FinMap, get, keys, entries, is_sorted, get-from_entries}
use Rattle.std.specs.FinMap.Entries.{below_all}
use Rattle.std.proofs.lemmas.List.{append-nil}
use Rattle.std.proofs.lemmas.List.Elements.{recursion_from_All}
use Rattle.std.proofs.lemmas.Map.Text.{is_eq-slice_cmp}
use Rattle.reg_maps.specs.Maps.{text_cmp, pair_cmp, same_text, only_if, select, finite_map}
use Rattle.reg_maps.specs.Groups.{group_rows, rows_in, pair_map, group_at, rows_of}
use Rattle.reg_maps.proofs.MapLaws.{IsKeyOrder, pair_keys, get-select, entries_are, tied}
use Rattle.reg_maps.proofs.Tests.{both, first, second}
use Rattle.reg_maps.proofs.Ascending.{is_sorted_from_ascending, ascending_from_is_sorted}
use Rattle.reg_maps.proofs.Orderings.{self_tie, lt_then}
use Rattle.reg_maps.proofs.FiniteMaps.Nested.{find-group, get-pair_map, row_of}

-- an ordered map has the entries of the finite map that it is seen as, in the same order
pub entries-finite_map : {K X : Type 0} {R : K → K → Ordering} → IsKeyOrder R
    → (m : BTreeMap K X) → IsOrdered R m → entries (finite_map R m) ≡ m.entries
entries-finite_map {R = R} o m h =
    entries_are o (finite_map R m) m.entries h
    (get-from_entries o.total m.entries)

-- an ordered map has the keys of the finite map that it is seen as, in the same order
pub keys-finite_map : {K X : Type 0} {R : K → K → Ordering} → IsKeyOrder R → (m : BTreeMap K X)
    → IsOrdered R m → keys (finite_map R m) ≡ keys_of m.entries
keys-finite_map o m h =
    ap keys_of (entries-finite_map o m h)

module _ {A B V : Type 0} {P : A → A → Ordering} (Q : B → B → Ordering) (o : IsTotalOrder P) where
  -- a row comes before the rest of its group
  below-group : (a : A) (b : B) (rs : List (B × V)) → T (below_all Q b rs)
      → T (below_all (pair_cmp P Q) (a, b) (group_rows a rs))
  below-group a b [] h = tt
  below-group a b (r ∷ rs) h =
      both _ _ (subst (λ x. T (is_lt (ordering_then x (Q b r.0))))
      (sym (self_tie (P a a) (o.antisymm a a))) (first _ _ h)) (below-group a b rs (second _ _ h))

  -- a group in order stays in order beside its key
  pub is_sorted-group : (a : A) (rs : List (B × V)) → T (is_sorted Q rs)
      → T (is_sorted (pair_cmp P Q) (group_rows a rs))
  is_sorted-group a [] h = tt
  is_sorted-group a (r ∷ rs) h =
      both _ _ (below-group a r.0 rs (first _ _ h)) (is_sorted-group a rs (second _ _ h))

-- what comes before the rows of two lists comes before those of both
below-append : {K Z : Type 0} (R : K → K → Ordering) (k : K) (xs ys : List (K × Z))
    → T (below_all R k xs) → T (below_all R k ys) → T (below_all R k (xs ++ ys))
below-append R k [] ys h i = i
below-append R k (x ∷ xs) ys h i = both _ _ (first _ _ h) (below-append R k xs ys (second _ _ h) i)

module _ {A B V : Type 0} {P : A → A → Ordering} (Q : B → B → Ordering) (o : IsTotalOrder P) where
  -- a group comes before another where its key does
  before-group : (a : A) (b : B) (c : A) (rs : List (B × V)) → T (is_lt (P a c))
      → T (below_all (pair_cmp P Q) (a, b) (group_rows c rs))
  before-group a b c [] h = tt
  before-group a b c (r ∷ rs) h = both _ _ (lt_then (P a c) (Q b r.0) h) (before-group a b c rs h)

  -- and before all groups of later keys
  before-groups : (a : A) (b : B) (es : List (A × BTreeMap B V)) → T (below_all P a es)
      → T (below_all (pair_cmp P Q) (a, b) (rows_in es))
  before-groups a b [] h = tt
  before-groups a b (e ∷ es) h =
      below-append (pair_cmp P Q) (a, b) (group_rows e.0 e.1.entries) (rows_in es)
      (before-group a b e.0 e.1.entries (first _ _ h)) (before-groups a b es (second _ _ h))

  -- a group in order, and then groups of later keys in order, are in order
  is_sorted-group_then : (a : A) (rs : List (B × V)) (es : List (A × BTreeMap B V))
      → T (is_sorted Q rs) → T (below_all P a es) → T (is_sorted (pair_cmp P Q) (rows_in es))
      → T (is_sorted (pair_cmp P Q) (group_rows a rs ++ rows_in es))
  is_sorted-group_then a [] es h below rest = rest
  is_sorted-group_then a (r ∷ rs) es h below rest =
      both _ _ (below-append (pair_cmp P Q) (a, r.0) (group_rows a rs) (rows_in es)
      (below-group Q o a r.0 rs (first _ _ h)) (before-groups a r.0 es below))
      (is_sorted-group_then a rs es (second _ _ h) below rest)

  -- so are the rows of all groups
  is_sorted-rows : (es : List (A × BTreeMap B V)) → T (is_sorted P es)
      → AllByRecursion (λ e. IsOrdered Q e.1) es → T (is_sorted (pair_cmp P Q) (rows_in es))
  is_sorted-rows [] h each = tt
  is_sorted-rows (e ∷ es) h each =
      is_sorted-group_then e.0 e.1.entries es (is_sorted_from_ascending Q e.1.entries each.0) (first _ _ h)
      (is_sorted-rows es (second _ _ h) each.1)

-- a map of maps has the rows of all groups, in the same order
pub entries-pair_map : {A B V : Type 0} {P : A → A → Ordering} {Q : B → B → Ordering}
    → IsKeyOrder P → IsKeyOrder Q → (m : BTreeMap A (BTreeMap B V)) → IsOrdered P m
    → All (λ e. IsOrdered Q e.1) m.entries → entries (pair_map P Q m) ≡ rows_in m.entries
entries-pair_map {P = P} {Q = Q} o p m h each =
    entries_are (pair_keys o p) (pair_map P Q m) (rows_in m.entries)
    (ascending_from_is_sorted (pair_cmp P Q) (rows_in m.entries)
    (is_sorted-rows Q o.total m.entries (is_sorted_from_ascending P m.entries h)
    (recursion_from_All (λ e. IsOrdered Q e.1) m.entries each)))
    (get-from_entries (pair_keys o p).total (rows_in m.entries))

-- the rows of one more group
pub rows_in-push : {A B V : Type 0} (es : List (A × BTreeMap B V)) (e : A × BTreeMap B V)
    → rows_in (es ++ e ∷ []) ≡ rows_in es ++ group_rows e.0 e.1.entries
rows_in-push [] e = append-nil (group_rows e.0 e.1.entries)
rows_in-push (x ∷ es) e =
    ap (λ rs. group_rows x.0 x.1.entries ++ rs) (rows_in-push es e)
    ∙ sym (append_assoc (group_rows x.0 x.1.entries) (rows_in es) (group_rows e.0 e.1.entries))

-- looking for a row and keeping it finds the row, and keeping none finds none
some_of : {X : Type 0} (x : Option X) → option_and_then (λ y. Some y) x ≡ x
some_of None = refl
some_of (Some x) = refl

none_of : {X Y : Type 0} (x : Option X) → ◌≡◌ {A = Option Y} (option_and_then (λ y. None) x) None
none_of None = refl
none_of (Some x) = refl

-- a row of a group that may be absent is found in its rows
pub in_rows : {B V : Type 0} (Q : B → B → Ordering) (b : B) (g : Option (BTreeMap B V))
    → option_and_then (λ group. tree.get Q group b) g ≡ lookup (is_at (Q b)) (rows_of g)
in_rows Q b None = refl
in_rows Q b (Some m) = refl

-- and these are in order
pub sorted-rows_of : {B V : Type 0} (Q : B → B → Ordering) (g : Option (BTreeMap B V))
    → IfSome g (IsOrdered Q) → T (is_sorted Q (rows_of g))
sorted-rows_of Q None h = tt
sorted-rows_of Q (Some m) h = is_sorted_from_ascending Q m.entries h

-- the rows of a group are a list in order that has what the map has at the group's keys
pub group_is : {A B V : Type 0} {P : A → A → Ordering} {Q : B → B → Ordering} → IsKeyOrder P
    → IsKeyOrder Q
    → (m : FinMap (pair_cmp P Q) V) (a : A) (rs : List (B × V)) → T (is_sorted Q rs)
    → ((b : B) → get m (a, b) ≡ lookup (is_at (Q b)) rs)
    → entries (group_at P m a) ≡ group_rows a rs
group_is {P = P} {Q = Q} o p m a rs in_order has =
    entries_are (pair_keys o p) _ _
    (ascending_from_is_sorted _ (group_rows a rs) (is_sorted-group Q o.total a rs in_order)) (λ q.
    get-select (pair_keys o p) (λ key row. only_if (is_at (P key.0) a) row) m q
    ∙ elim (is_at (P q.0) a) as (λ b. is_at (P q.0) a ≡ b
    → option_and_then (λ row. only_if b row) (get m q) ≡ cond b (lookup (is_at (Q q.1)) rs) None) [
      | true ↦ λ t. some_of (get m q) ∙ ap (λ k. get m (k, q.1)) (tied o q.0 a t) ∙ has q.1
      | false ↦ λ t. none_of (get m q)
    ] refl
    ∙ sym (find-group P Q q a rs))

-- those of a group of a map of maps are its own
pub entries-group_at : {A B V : Type 0} {P : A → A → Ordering} {Q : B → B → Ordering}
    → IsKeyOrder P → IsKeyOrder Q
    → (m : BTreeMap A (BTreeMap B V)) → IsOrdered P m → (a : A) (g : Option (BTreeMap B V))
    → tree.get P m a ≡ g → IfSome g (IsOrdered Q)
    → entries (group_at P (pair_map P Q m) a) ≡ group_rows a (rows_of g)
entries-group_at {P = P} {Q = Q} o p m h a g is ordered =
    group_is o p (pair_map P Q m) a (rows_of g) (sorted-rows_of Q g ordered) (λ b.
    get-pair_map o p m h (a, b) ∙ ap (λ group. row_of Q group b) is ∙ in_rows Q b g)

-- what is made of the rows of a group
pub map-group_rows : {A B V X : Type 0} (f : A × B → V → X) (a : A) (rs : List (B × V))
    → map (λ (e : (A × B) × V). f e.0 e.1) (group_rows a rs)
    ≡ map (λ (r : B × V). f (a, r.0) r.1) rs
map-group_rows f a [] = refl
map-group_rows f a (r ∷ rs) = ap (λ xs. f (a, r.0) r.1 ∷ xs) (map-group_rows f a rs)

-- a group by a text
pub text_group : {B V : Type 0} {R : List ℕ × B → List ℕ × B → Ordering} (m : FinMap R V)
    (a : List ℕ)
    → select (λ key row. only_if (same_text key.0 a) row) m ≡ group_at text_cmp m a
text_group m a = λ i. select (λ key row. only_if (sym (is_eq-slice_cmp key.0 a) i) row) m
