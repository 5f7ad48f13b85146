-- Finite maps: the orders of keys, rows chosen from a map, a row replaced, and ordered maps seen as
-- finite ones.
use Rattle.std.specs.Prelude.{ℕ, Bool, List, Option, Some, None, option_map, filter_map, bytes_eq, if◌then◌else◌}
use Rattle.std.specs.declared.cmp.Ordering.{Ordering}
use Rattle.std.specs.Ordering.{nat_cmp, ordering_then}
use Rattle.std.specs.Cmp.Lexicographic.{slice_cmp}
use Rattle.std.specs.BTreeMap.{BTreeMap}
use Rattle.std.specs.FinMap.{FinMap, get, insert, entries, from_sorted, from_entries}

-- texts in order of their bytes
abbrev pub text_cmp : List ℕ → List ℕ → Ordering
text_cmp = slice_cmp nat_cmp

-- pairs in order of the first part, and then of the second
abbrev pub pair_cmp : {A B : Type 0} → (A → A → Ordering) → (B → B → Ordering) → A × B → A × B
    → Ordering
pair_cmp P Q x y = ordering_then (P x.0 y.0) (Q x.1 y.1)

abbrev pub same_text : List ℕ → List ℕ → Bool
same_text = bytes_eq

-- the value, where the test holds
abbrev pub only_if : {A : Type 0} → Bool → A → Option A
only_if b x = if b then Some x else None

-- the value, beside its key
abbrev pub keyed : {K Y : Type 0} → K → Option Y → Option (K × Y)
keyed k o = option_map (λ y. (k, y)) o

-- the rows for which the test gives something, with what it gives
unfoldable pub select : {K X Y : Type 0} {R : K → K → Ordering} → (K → X → Option Y) → FinMap R X
    → FinMap R Y
select f m = from_sorted (filter_map (λ e. keyed e.0 (f e.0 e.1)) (entries m))

-- the map after a row is replaced; without such a row the map itself
abbrev pub replaced : {K X : Type 0} {R : K → K → Ordering} → FinMap R X → K → Option X
    → FinMap R X
replaced m k None = m
replaced m k (Some x) = insert m k x

abbrev pub update : {K X : Type 0} {R : K → K → Ordering} → FinMap R X → K → (X → X) → FinMap R X
update m k f = replaced m k (option_map f (get m k))

-- the rows of an ordered map by key
abbrev pub finite_map : {K V : Type 0} (R : K → K → Ordering) → BTreeMap K V → FinMap R V
finite_map R m = from_entries m.entries
