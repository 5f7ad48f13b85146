-- Maps of rows that were listed from maps.
use Rattle.std.proofs.Common.{◌≡◌, ℕ, List, [], ◌∷◌, map, refl, sym, ap, ◌∙◌, true, false, cond}
use Rattle.std.specs.Prelude.{All, Contains, Option, Some, None, is_some, option_and_then}
use Rattle.std.specs.declared.cmp.Ordering.{Ordering}
use Rattle.std.specs.FinMap.{FinMap, contains_key, entries, find, from_entries, get, get-entries, get-from_entries, keys}
use Rattle.std.specs.FinSet.{FinSet}
use Rattle.std.specs.Ordering.{eq_by_cmp, nat_cmp}
use Rattle.std.proofs.lemmas.List.Elements.{All-map}
use Rattle.reg_maps.proofs.MapLaws.{All-entries, Contains-keys, IsKeyOrder, get-select, number_keys, same_at}
use Rattle.reg_blocks.specs.Block.{SizedPrefix, block_cmp, leading_24}
use Rattle.reg_core.specs.Entry.{entry_row}
use Rattle.reg_core.specs.Holding.{ShownHolding, listed_row, listed_rows, masked, masked_blocks}
use Rattle.reg_core.specs.Page.{entry_rows}
use Rattle.reg_core.specs.World.{Place, place_cmp}
use Rattle.reg_core.specs.declared.entry.Registration.{Registration}
use Rattle.reg_core.specs.declared.holding.Holder.{Holder}
use Rattle.reg_core.specs.declared.holding.Listed.{Listed}
use Rattle.reg_core.proofs.KeyOrders.{block_keys, place_keys}
use Rattle.reg_vacancies.specs.Pool.{prefix_set}
use Rattle.reg_sql.specs.Listed.{given, nobody, registered, registrations}

-- a map is that of its entries
from_listed : {K X : Type 0} {R : K → K → Ordering} → IsKeyOrder R → (m : FinMap R X)
    → from_entries (entries m) ≡ m
from_listed {R = R} o m = same_at o _ _ (λ q.
    get-from_entries o.total (entries m) q ∙ sym (get-entries m q))

-- ---- Entries

entries_again : (es : List (Place × Registration))
    → map registered (map (λ (e : Place × Registration). entry_row e.0.0 e.0.1 e.1) es) ≡ es
entries_again [] = refl
entries_again (e ∷ es) = ap (λ more. e ∷ more) (entries_again es)

pub registrations_listed : (m : FinMap place_cmp Registration) → registrations (entry_rows m) ≡ m
registrations_listed m = ap from_entries (entries_again (entries m)) ∙ from_listed place_keys m

-- ---- Prefixes

prefixes_again : (es : List (ℕ × Unit {0}))
    → map (λ (prefix : ℕ). (prefix, tt)) (map (λ (e : ℕ × Unit {0}). e.0) es) ≡ es
prefixes_again [] = refl
prefixes_again (e ∷ es) = ap (λ more. e ∷ more) (prefixes_again es)

pub prefixes_listed : (m : FinSet nat_cmp) → prefix_set (keys m) ≡ m
prefixes_listed m = ap from_entries (prefixes_again (entries m)) ∙ from_listed number_keys m

-- ---- Blocks

-- blocks without their holders
abbrev anyhow : SizedPrefix × ShownHolding → SizedPrefix × Holder
anyhow e = (e.0, nobody)

blocks_again : (es : List (SizedPrefix × ShownHolding))
    → map (λ (row : Listed). (row.block, nobody)) (map (λ (e : SizedPrefix × ShownHolding). listed_row e.0 e.1) es)
    ≡ map anyhow es
blocks_again [] = refl
blocks_again (e ∷ es) = ap (λ more. anyhow e ∷ more) (blocks_again es)

find-anyhow : (q : SizedPrefix) (es : List (SizedPrefix × ShownHolding))
    → is_some (find block_cmp q (map anyhow es)) ≡ is_some (find block_cmp q es)
find-anyhow q [] = refl
find-anyhow q (e ∷ es) =
    elim (eq_by_cmp block_cmp q e.0) as
    (λ b. is_some (cond b (Some nobody) (find block_cmp q (map anyhow es)))
    ≡ is_some (cond b (Some e.1) (find block_cmp q es)))
    [ true ↦ refl | false ↦ find-anyhow q es ]

is_some-masked : (o : Option Holder)
    → is_some (option_and_then (λ h. Some (masked h)) o) ≡ is_some o
is_some-masked None = refl
is_some-masked (Some h) = refl

contains-masked : (m : FinMap block_cmp Holder) (q : SizedPrefix)
    → contains_key (masked_blocks m) q ≡ contains_key m q
contains-masked m q =
    ap is_some (get-select block_keys (λ block h. Some (masked h)) m q) ∙ is_some-masked (get m q)

-- blocks that the public sees are those that were given
pub given_listed : (m : FinMap block_cmp Holder) (q : SizedPrefix)
    → contains_key (given (listed_rows (masked_blocks m))) q ≡ contains_key m q
given_listed m q =
    let es = entries (masked_blocks m) in
    ap (λ rows. contains_key (from_entries {R = block_cmp} rows) q) (blocks_again es)
    ∙ ap is_some (get-from_entries block_keys.total (map anyhow es) q)
    ∙ find-anyhow q es
    ∙ sym (ap is_some (get-entries (masked_blocks m) q))
    ∙ contains-masked m q

-- ---- Places in the pool

pub is_key : (pool : FinSet nat_cmp) (prefix : ℕ) → contains_key pool prefix ≡ true
    → Contains (keys pool) prefix
is_key pool prefix there =
    elim (get pool prefix) as
    (λ o. get pool prefix ≡ o → is_some o ≡ true → Contains (keys pool) prefix) [
      | None ↦ λ is no. absurd (cc)
      | Some u ↦ λ is yes. Contains-keys number_keys pool prefix u is
    ] refl there

pub each_in_pool : (m : FinMap block_cmp Holder) (pool : FinSet nat_cmp)
    → ((block : SizedPrefix) (h : Holder) → get m block ≡ Some h
    → contains_key pool (leading_24 block) ≡ true)
    → All (λ (row : Listed). Contains (keys pool) (leading_24 row.block))
    (listed_rows (masked_blocks m))
each_in_pool m pool lies =
    All-map (λ (row : Listed). Contains (keys pool) (leading_24 row.block))
    (λ (e : SizedPrefix × ShownHolding). listed_row e.0 e.1) (entries (masked_blocks m))
    (All-entries block_keys.total
    (λ (e : SizedPrefix × ShownHolding). Contains (keys pool) (leading_24 e.0)) (masked_blocks m)
    (λ block s is. at block (sym (contains-masked m block) ∙ ap is_some is)))
  where
    at : (block : SizedPrefix) → contains_key m block ≡ true
        → Contains (keys pool) (leading_24 block)
    at block there =
        elim (get m block) as
        (λ o. get m block ≡ o → is_some o ≡ true → Contains (keys pool) (leading_24 block)) [
          | None ↦ λ is no. absurd (cc)
          | Some h ↦ λ is yes. is_key pool (leading_24 block) (lies block h is)
        ] refl there
