-- The rows of the registries and of their ranges.
use Rattle.std.proofs.Common.{◌≡◌, ℕ, List, [], ◌∷◌, Some, None, Option}
use Rattle.std.proofs.Common.{map, filter_map, refl, sym, ap, ◌∙◌, option_map, option_and_then}
use Rattle.std.specs.declared.cmp.Ordering.{Ordering}
use Rattle.std.specs.FinMap.{FinMap, get, entries, keys}
use Rattle.reg_maps.specs.Maps.{keyed, select, text_cmp}
use Rattle.reg_maps.proofs.MapLaws.{IsKeyOrder, entries-select, get-select, same_at, text_keys}
use Rattle.reg_maps.proofs.Mapped.{get-mapped, map_map}
use Rattle.reg_ranges.specs.Tables.{Table}
use Rattle.reg_ranges.specs.declared.range.Range.{Range}
use Rattle.reg_core.specs.World.{place_cmp}
use Rattle.reg_statements.specs.Content.{ranges_of, registries_in, registry_table}

-- ---- The registries that the two tables hold

some_again : {X : Type 0} (r : Option X) → option_and_then (λ x. Some x) r ≡ r
some_again None = refl
some_again (Some x) = refl

-- a selection of every row is the map
pub select-all : {K X : Type 0} {R : K → K → Ordering} → IsKeyOrder R → (m : FinMap R X)
    → select (λ k x. Some x) m ≡ m
select-all o m = same_at o _ _ (λ q. get-select o (λ k x. Some x) m q ∙ some_again (get m q))

-- a registry is there where its largest value is
pub registry-at : (largest : FinMap text_cmp ℕ) (m : FinMap place_cmp Range) (name : List ℕ)
    → get (registries_in largest m) name ≡ option_map (registry_table m name) (get largest name)
registry-at largest m name = get-mapped text_keys (registry_table m) largest name

same_keys : {K X Y : Type 0} (f : K → X → Y) (es : List (K × X))
    → map (λ e. e.0) (filter_map (λ e. keyed e.0 (Some (f e.0 e.1))) es) ≡ map (λ e. e.0) es
same_keys f [] = refl
same_keys f (e ∷ es) = ap (λ ks. e.0 ∷ ks) (same_keys f es)

pub registry-keys : (largest : FinMap text_cmp ℕ) (m : FinMap place_cmp Range)
    → keys (registries_in largest m) ≡ keys largest
registry-keys largest m =
    ap (map (λ e. e.0))
    (entries-select text_keys (λ name max. Some (registry_table m name max)) largest)
    ∙ same_keys (registry_table m) (entries largest)

same_option : {X : Type 0} (r : Option X) → option_map (λ x. x) r ≡ r
same_option None = refl
same_option (Some x) = refl

-- with it as the largest value
pub max-at : (largest : FinMap text_cmp ℕ) (m : FinMap place_cmp Range) (name : List ℕ)
    → option_map (λ (t : Table). t.max) (get (registries_in largest m) name) ≡ get largest name
max-at largest m name =
    ap (option_map (λ (t : Table). t.max)) (registry-at largest m name)
    ∙ map_map (registry_table m name) (λ (t : Table). t.max) (get largest name)
    ∙ same_option (get largest name)

kept_some : {X Y : Type 0} (f : X → Y) (r : Option X) (y : Y) → option_map f r ≡ Some y
    → (x : X) × (f x ≡ y)
kept_some f None y is = absurd (cc)
kept_some f (Some x) y is = (x, cc)

-- and its own ranges in order
pub ranges-at : (largest : FinMap text_cmp ℕ) (m : FinMap place_cmp Range) (name : List ℕ)
    (t : Table) → get (registries_in largest m) name ≡ Some t
    → map (λ e. e.1) (entries (ranges_of name m)) ≡ t.ranges
ranges-at largest m name t is =
    let it = kept_some (registry_table m name) (get largest name) t
    (sym (registry-at largest m name) ∙ is) in
    ap (λ (t : Table). t.ranges) it.1
