-- What the rows of a table hold, as a finite map. The rows are a list in no known order.
use Rattle.std.specs.Prelude.{◌≡◌, if◌then◌else◌, Bool, List, Option, Some, IsSome, filter_map}
use Rattle.std.specs.List.{AllByRecursion, IsDistinct}
use Rattle.std.specs.List.Sorted.{IsStrictlySortedBy}
use Rattle.std.specs.Map.{keys_of}
use Rattle.std.specs.declared.cmp.Ordering.{Ordering}
use Rattle.std.specs.Ordering.{eq_by_cmp}
use Rattle.std.specs.FinMap.{FinMap, from_entries}
use Rattle.reg_maps.specs.Maps.{select}

-- the map of the rows, each of which is read as a key and its value
abbrev pub held_in : {A K X : Type 0} {R : K → K → Ordering} → (A → Option (K × X)) → List A
    → FinMap R X
held_in of rows = from_entries (filter_map of rows)

-- no two entries have one key
abbrev pub AreApart : {K X : Type 0} → (K → K → Ordering) → List (K × X) → Type 0
AreApart R entries = IsDistinct (eq_by_cmp R) (keys_of entries)

-- the key of each entry is below the keys after it
abbrev pub AreAscending : {K X : Type 0} → (K → K → Ordering) → List (K × X) → Type 0
AreAscending R entries = IsStrictlySortedBy R (keys_of entries)

-- each row reads back, and no two rows have one key
pub record IsTable {A K X : Type 0} (R : K → K → Ordering) (of : A → Option (K × X))
    (rows : List A) : Type 0 where
  pub reads : AllByRecursion (λ row. IsSome (of row)) rows
  pub distinct : AreApart R (filter_map of rows)

-- of the rows that read, the test passes those of one key
abbrev pub PassesAt : {A K X : Type 0} → (K → K → Ordering) → (A → Option (K × X)) → (A → Bool)
    → K → Type 0
PassesAt {A} {K} {X} R of test k =
    (row : A) (key : K) (x : X) → of row ≡ Some (key, x) → test row ≡ eq_by_cmp R key k

-- and those whose key and value pass this one
abbrev pub PassesWhere : {A K X : Type 0} → (A → Option (K × X)) → (A → Bool) → (K → X → Bool)
    → Type 0
PassesWhere {A} {K} {X} of test p =
    (row : A) (key : K) (x : X) → of row ≡ Some (key, x) → test row ≡ p key x

-- the map with the values that pass changed
abbrev pub changed_where : {K X : Type 0} {R : K → K → Ordering} → (K → X → Bool) → (X → X)
    → FinMap R X → FinMap R X
changed_where p f m = select (λ k x. Some (if p k x then f x else x)) m
