-- Maps of maps, seen as finite maps by pairs of keys.
use Rattle.std.specs.Prelude.{List, [], ◌∷◌, ◌++◌, map, Option, Some, None}
use Rattle.std.specs.declared.cmp.Ordering.{Ordering}
use Rattle.std.specs.BTreeMap.{BTreeMap, is_at}
use Rattle.std.specs.FinMap.{FinMap, from_entries}
use Rattle.reg_maps.specs.Maps.{pair_cmp, only_if, select}

-- a group's rows, each with its two keys
abbrev pub group_rows : {A B V : Type 0} → A → List (B × V) → List ((A × B) × V)
group_rows a rs = map (λ r. ((a, r.0), r.1)) rs

-- the rows of all groups in order
abbrev pub rows_in : {A B V : Type 0} → List (A × BTreeMap B V) → List ((A × B) × V)
rows_in [] = []
rows_in (e ∷ es) = group_rows e.0 e.1.entries ++ rows_in es

-- the rows of a map of maps by both keys: an empty group adds nothing
abbrev pub pair_map : {A B V : Type 0} (P : A → A → Ordering) (Q : B → B → Ordering)
    → BTreeMap A (BTreeMap B V) → FinMap (pair_cmp P Q) V
pair_map P Q m = from_entries (rows_in m.entries)

-- the rows of one group
abbrev pub group_at : {A B V : Type 0} {R : A × B → A × B → Ordering} (P : A → A → Ordering)
    → FinMap R V → A → FinMap R V
group_at P m a = select (λ key row. only_if (is_at (P key.0) a) row) m

-- the rows of a group that may be absent
abbrev pub rows_of : {B V : Type 0} → Option (BTreeMap B V) → List (B × V)
rows_of None = []
rows_of (Some m) = m.entries
