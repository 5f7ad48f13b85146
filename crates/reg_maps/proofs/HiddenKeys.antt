-- Maps that agree at every key but the hidden ones: in what is selected of them, in the rows that
-- are not hidden, after the same change of both, and after a change at a hidden key. And maps that
-- have no row at a hidden key.
use Rattle.std.proofs.Common.{◌≡◌, Bool, true, false, cond, not, List, [], ◌∷◌, map, refl, sym, ap, ◌∙◌}
use Rattle.std.specs.Prelude.{Option, Some, None, option_map, option_and_then, filter, filter_map, All}
use Rattle.std.specs.List.{cons_option}
use Rattle.std.specs.declared.cmp.Ordering.{Ordering}
use Rattle.std.specs.Ordering.{eq_by_cmp}
use Rattle.std.specs.FinMap.{FinMap, get, insert, entries}
use Rattle.std.proofs.lemmas.Bool.{both_ways}
use Rattle.std.proofs.lemmas.List.Elements.{All-head, All-tail, All-map}
use Rattle.reg_maps.specs.Maps.{only_if, keyed, select, update}
use Rattle.reg_maps.proofs.MapLaws.{IsKeyOrder, tied, All-entries, get-select, entries-select, same_at, get-at_insert, get-update}

-- the two maps have the same rows at all keys but the hidden ones
abbrev pub AgreeBut : {K X : Type 0} {R : K → K → Ordering} → (K → Bool) → FinMap R X → FinMap R X
    → Type 0
AgreeBut {K = K} hidden m n = (k : K) → hidden k ≡ false → get m k ≡ get n k

-- nothing is chosen at a hidden key
abbrev pub NoneAt : {K X Y : Type 0} → (K → Bool) → (K → X → Option Y) → Type 0
NoneAt {K = K} {X = X} hidden f = (k : K) → hidden k ≡ true → (x : X) → f k x ≡ None

-- the same is chosen at the other keys
abbrev pub ChooseAlike : {K X Y : Type 0} → (K → Bool) → (f g : K → X → Option Y) → Type 0
ChooseAlike {K = K} {X = X} hidden f g = (k : K) → hidden k ≡ false → (x : X) → f k x ≡ g k x

-- nothing is hidden in this map
abbrev pub IsBare : {K X : Type 0} {R : K → K → Ordering} → (K → Bool) → FinMap R X → Type 0
IsBare {K = K} hidden m = (k : K) → hidden k ≡ true → get m k ≡ None

-- ---- Rows

-- a map's rows, in order
abbrev pub rows_of : {K X Y : Type 0} {R : K → K → Ordering} → (K → X → Y) → FinMap R X → List Y
rows_of row m = map (λ e. row e.0 e.1) (entries m)

-- a test that all pass leaves the list as it is
all_pass : {A : Type 0} (test : A → Bool) (xs : List A) → All (λ x. test x ≡ true) xs
    → filter test xs ≡ xs
all_pass test [] all = refl
all_pass test (x ∷ xs) all =
    ap (λ b. cond b (x ∷ filter test xs) (filter test xs)) (All-head (λ x. test x ≡ true) x xs all)
    ∙ ap (λ rest. x ∷ rest) (all_pass test xs (All-tail (λ x. test x ≡ true) x xs all))

none_chosen : {X Y : Type 0} (f : X → Option Y) (existing : Option X) → ((x : X) → f x ≡ None)
    → option_and_then f existing ≡ None
none_chosen f None h = refl
none_chosen f (Some x) h = h x

-- the rows of a list that are seen
seen_list : {K X Y : Type 0} (seen : Y → Bool) (row : K → X → Y) (es : List (K × X))
    → filter seen (map (λ e. row e.0 e.1) es)
    ≡ map (λ e. row e.0 e.1) (filter_map (λ e. keyed e.0 (only_if (seen (row e.0 e.1)) e.1)) es)
seen_list seen row [] = refl
seen_list seen row (e ∷ es) =
    let shown = filter seen (map (λ e. row e.0 e.1) es) in
    let left = filter_map (λ e. keyed e.0 (only_if (seen (row e.0 e.1)) e.1)) es in
    let kept = λ (b : Bool). cons_option (keyed e.0 (only_if b e.1)) left in
    let first = row e.0 e.1 in
    elim (seen first) as (λ b. cond b (first ∷ shown) shown ≡ map (λ e. row e.0 e.1) (kept b)) [
      | true ↦ ap (λ rows. row e.0 e.1 ∷ rows) (seen_list seen row es)
      | false ↦ seen_list seen row es
    ]

module _ {K : Type 0} {R : K → K → Ordering} (o : IsKeyOrder R) (hidden : K → Bool) where
  -- what is selected alike of two such maps
  pub both_select : {X Y : Type 0} (f g : K → X → Option Y) (m n : FinMap R X)
      → ChooseAlike hidden f g → AgreeBut hidden m n → AgreeBut hidden (select f m) (select g n)
  both_select f g m n same agree k h =
      get-select o f m k ∙ (λ i. option_and_then (λ x. same k h x i) (agree k h i))
      ∙ sym (get-select o g n k)

  -- it is one map where nothing is selected at a hidden key
  pub same_select : {X Y : Type 0} (f g : K → X → Option Y) (m n : FinMap R X)
      → ChooseAlike hidden f g → AgreeBut hidden m n → NoneAt hidden f → NoneAt hidden g
      → select f m ≡ select g n
  same_select f g m n same agree no_f no_g = same_at o _ _ (λ k. by k (hidden k) refl)
    where
      by : (k : K) (b : Bool) → hidden k ≡ b → get (select f m) k ≡ get (select g n) k
      by k true h =
          get-select o f m k ∙ none_chosen (f k) (get m k) (no_f k h)
          ∙ sym (get-select o g n k ∙ none_chosen (g k) (get n k) (no_g k h))
      by k false h = both_select f g m n same agree k h

  -- two such maps list the same rows, in order, but for the hidden ones
  pub same_rows : {X Y : Type 0} (seen : Y → Bool) (row : K → X → Y) (m n : FinMap R X)
      → ((k : K) → hidden k ≡ true → (x : X) → seen (row k x) ≡ false) → AgreeBut hidden m n
      → filter seen (rows_of row m) ≡ filter seen (rows_of row n)
  same_rows {X = X} seen row m n unseen agree =
      let shown : K → X → Option X = λ k x. only_if (seen (row k x)) x in
      let none : NoneAt hidden shown = λ k h x. ap (λ b. only_if b x) (unseen k h x) in
      let same = same_select shown shown m n (λ k h x. refl) agree none none in
      let left = sym (entries-select o shown m) ∙ ap entries same ∙ entries-select o shown n in
      seen_list seen row (entries m) ∙ ap (map (λ e. row e.0 e.1)) left
      ∙ sym (seen_list seen row (entries n))

  -- a map without a row at a hidden key lists all its rows
  pub plain_rows : {X Y : Type 0} (seen : Y → Bool) (row : K → X → Y)
      → ((k : K) (x : X) → seen (row k x) ≡ not (hidden k))
      → (m : FinMap R X) → IsBare hidden m → filter seen (rows_of row m) ≡ rows_of row m
  plain_rows {X = X} seen row test m bare =
      all_pass seen (rows_of row m) (All-map (λ y. seen y ≡ true) (λ e. row e.0 e.1) (entries m)
      (All-entries o.total (λ e. seen (row e.0 e.1) ≡ true) m
      (λ k x is_there. test k x ∙ by k x is_there (hidden k) refl)))
    where
      by : (k : K) (x : X) → get m k ≡ Some x → (b : Bool) → hidden k ≡ b → not (hidden k) ≡ true
      by k x is_there true h = let gone = bare k h in absurd (cc)
      by k x is_there false h = ap not h

  -- ---- Changes

  module _ {X : Type 0} (m n : FinMap R X) (agree : AgreeBut hidden m n) where
    pub both_insert : (k : K) (x : X) → AgreeBut hidden (insert m k x) (insert n k x)
    both_insert k x q h =
        get-at_insert o m k x q ∙ ap (cond (eq_by_cmp R q k) (Some x)) (agree q h)
        ∙ sym (get-at_insert o n k x q)

    pub both_update : (k : K) (f : X → X) → AgreeBut hidden (update m k f) (update n k f)
    both_update k f q h =
        get-update o m k f q ∙ by (eq_by_cmp R q k) refl ∙ sym (get-update o n k f q)
      where
        by : (b : Bool) → eq_by_cmp R q k ≡ b
            → cond b (option_map f (get m k)) (get m q) ≡ cond b (option_map f (get n k)) (get n q)
        by true t = ap (option_map f) (agree k (ap hidden (sym (tied o q k t)) ∙ h))
        by false t = agree q h

    -- a key that is not hidden is another key than a hidden one
    apart : (k q : K) → hidden k ≡ true → hidden q ≡ false → (there : Option X)
        → cond (eq_by_cmp R q k) there (get m q) ≡ get n q
    apart k q hk h there = by (eq_by_cmp R q k) refl
      where
        by : (b : Bool) → eq_by_cmp R q k ≡ b → cond b there (get m q) ≡ get n q
        by true t = absurd (both_ways (hidden q) h (ap hidden (tied o q k t) ∙ hk))
        by false t = agree q h

    pub one_insert : (k : K) (x : X) → hidden k ≡ true → AgreeBut hidden (insert m k x) n
    one_insert k x hk q h = get-at_insert o m k x q ∙ apart k q hk h (Some x)

    pub one_update : (k : K) (f : X → X) → hidden k ≡ true → AgreeBut hidden (update m k f) n
    one_update k f hk q h = get-update o m k f q ∙ apart k q hk h (option_map f (get m k))
