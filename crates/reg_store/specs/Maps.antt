-- What is done with each row of an ordered map, and lists in the rows of one.
use Rattle.std.specs.Prelude.{◌≡◌, List, [], ◌∷◌, ◌++◌, Result, Ok, Option, Some, None, if◌then◌else◌}
use Rattle.std.specs.Borrow.{Bor}
use Rattle.std.specs.FinMap.{FinMap, get}
use Rattle.std.specs.Global.{Vec}
use Rattle.std.specs.Ordering.{eq_by_cmp}
use Rattle.std.specs.declared.cmp.Ordering.{Ordering}

-- what is made of a key and its row, if anything, is f of them
abbrev pub Computes : {K V T E : Type 0} → (Bor K → Bor V → Result T E → Type 0) → (K → V → T)
    → Type 0
Computes {K} {V} {T} makes f =
    (key : Bor K) (row : Bor V) (made : T) → makes key row (Ok made) → made ≡ f key.now row.now

-- the items of a list, if there is one
abbrev pub items_of : {X : Type 0} → Option (Vec X) → List X
items_of None = []
items_of (Some list) = list.items

abbrev pub list_at : {K X : Type 0} {R : K → K → Ordering} → FinMap R (Vec X) → K → List X
list_at m k = items_of (get m k)

-- the lists have the same items, but for one more at the end of the list at a key
abbrev pub HasOneMore : {K X : Type 0} {R : K → K → Ordering} → FinMap R (Vec X) → FinMap R (Vec X)
    → K → X → Type 0
HasOneMore {K} {X} {R} old new key item =
    (k : K) → list_at new k ≡ (if eq_by_cmp R k key then list_at old k ++ item ∷ [] else list_at old k)

abbrev pub HaveSameItems : {K X : Type 0} {R : K → K → Ordering} → FinMap R (Vec X)
    → FinMap R (Vec X) → Type 0
HaveSameItems {K} old new = (k : K) → list_at new k ≡ list_at old k
