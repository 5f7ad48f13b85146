-- Pairs of names, in the order of their first parts and in that of their second.
use Rattle.std.specs.Prelude.{◌≡◌, ℕ, List, map}
use Rattle.std.specs.BTreeMap.{BTreeMap}
use Rattle.std.specs.FinMap.{get, keys}
use Rattle.std.specs.FinSet.{FinSet}
use Rattle.std.specs.declared.cmp.Ordering.{Ordering}
use Rattle.reg_maps.specs.Maps.{only_if, pair_cmp, same_text, select, text_cmp}
use Rattle.reg_maps.specs.Groups.{pair_map}

-- a pair of names
abbrev pub NamePair : Type 0
NamePair = List ℕ × List ℕ

abbrev pub names_cmp : NamePair → NamePair → Ordering
names_cmp = pair_cmp text_cmp text_cmp

-- by one name, and then by another
abbrev pub Pairs : Type 0
Pairs = BTreeMap (List ℕ) (BTreeMap (List ℕ) (Unit {0}))

-- all pairs
abbrev pub all_pairs : Pairs → FinSet names_cmp
all_pairs pairs = pair_map text_cmp text_cmp pairs

-- the pairs that have a name first, and those that have it second
abbrev pub with_first : List ℕ → FinSet names_cmp → FinSet names_cmp
with_first name pairs = select (λ pair u. only_if (same_text pair.0 name) u) pairs

abbrev pub with_second : List ℕ → FinSet names_cmp → FinSet names_cmp
with_second name pairs = select (λ pair u. only_if (same_text pair.1 name) u) pairs

-- the other names of these, in order
abbrev pub seconds_of : List ℕ → FinSet names_cmp → List (List ℕ)
seconds_of name pairs = map (λ pair. pair.1) (keys (with_first name pairs))

abbrev pub firsts_of : List ℕ → FinSet names_cmp → List (List ℕ)
firsts_of name pairs = map (λ pair. pair.0) (keys (with_second name pairs))

-- the same pairs, with their parts in the other order
abbrev pub AreMirrored : FinSet names_cmp → FinSet names_cmp → Type 0
AreMirrored pairs turned = (first second : List ℕ) → get turned (second, first) ≡ get pairs (first, second)
