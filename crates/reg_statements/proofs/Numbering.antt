-- Acts by their numbers 1, 2, 3 ..: the next number is free, and the act at it is the latest.
use Rattle.std.proofs.Common.{◌≡◌, ◌<◌, ℕ, zero, suc, ◌+◌, false, List, [], ◌∷◌, ◌++◌, length, map, reverse}
use Rattle.std.proofs.Common.{None, refl, sym, ap, ◌∙◌, arith}
use Rattle.std.proofs.lemmas.Bool.Decides.{nat_tests}
use Rattle.std.proofs.lemmas.List.{length-append, length-map, length-reverse, map-append, reverse-append}
use Rattle.std.specs.Cmp.{nat_cmp_is, nat_cmp_total}
use Rattle.std.specs.FinMap.{FinMap, empty, entries, entries-insert, find, get, get-entries, insert, put, values}
use Rattle.std.specs.List.{range_with_len}
use Rattle.std.specs.List.Sorted.{IsStrictlySortedBy}
use Rattle.std.specs.Ordering.{eq_by_cmp, nat_cmp}
use Rattle.std.specs.declared.cmp.Ordering.TheVariants.{Greater}
use Rattle.reg_maps.proofs.MapLaws.{entries-from_ascending, number_keys}
use Rattle.reg_core.specs.declared.journal.Act.{Act}
use Rattle.reg_statements.specs.Content.{AreCounted, latest_first}

-- ---- Entries whose keys are the numbers from one on

abbrev AreFrom : ℕ → List (ℕ × Act) → Type 0
AreFrom n es = map (λ e. e.0) es ≡ range_with_len n (length es)

-- a greater key comes behind them
put_behind : (n k : ℕ) (a : Act) (es : List (ℕ × Act)) → AreFrom n es → k ≡ n + length es
    → put nat_cmp k a es ≡ es ++ (k, a) ∷ []
put_behind n k a [] are is = refl
put_behind n k a (e ∷ es) are is =
    let first : e.0 ≡ n = cc in
    let rest : AreFrom (n + 1) es = cc in
    let above : e.0 < k = omega (arith, first, is) in
    let greater : nat_cmp k e.0 ≡ Greater = sym (nat_cmp_is k e.0 Greater above) in
    rw greater (ap (λ more. e ∷ more) (put_behind (n + 1) k a es rest (omega (arith, is))))

-- and is at none of them
find_behind : (n k : ℕ) (es : List (ℕ × Act)) → AreFrom n es → k ≡ n + length es
    → find nat_cmp k es ≡ None
find_behind n k [] are is = refl
find_behind n k (e ∷ es) are is =
    let first : e.0 ≡ n = cc in
    let rest : AreFrom (n + 1) es = cc in
    let above : e.0 < k = omega (arith, first, is) in
    let other : eq_by_cmp nat_cmp k e.0 ≡ false = grind (arith, nat_tests) in
    rw other (find_behind (n + 1) k es rest (omega (arith, is)))

range_behind : (n m k : ℕ) → k ≡ n + m → range_with_len n m ++ k ∷ [] ≡ range_with_len n (suc m)
range_behind n zero k is = ap (λ k. k ∷ []) (omega (arith, is))
range_behind n (suc m) k is =
    ap (λ more. n ∷ more) (range_behind (n + 1) m k (omega (arith, is)))

-- ---- The next number

module _ (m : FinMap nat_cmp Act) where
  pub length_latest : length (latest_first m) ≡ length (entries m)
  length_latest = length-reverse (values m) ∙ length-map (entries m) (λ e. e.1)

  module _ (counted : AreCounted m) (k : ℕ) (a : Act) (is : k ≡ length (latest_first m) + 1) where
    next : k ≡ 1 + length (entries m)
    next = omega (arith, is, length_latest)

    entries_next : entries (insert m k a) ≡ entries m ++ (k, a) ∷ []
    entries_next =
        entries-insert nat_cmp_total m k a ∙ put_behind 1 k a (entries m) counted next

    -- is free
    pub next_free : get m k ≡ None
    next_free = get-entries m k ∙ find_behind 1 k (entries m) counted next

    -- with an act at it the numbers are such again
    pub next_counted : AreCounted (insert m k a)
    next_counted =
        let long = ap length entries_next ∙ length-append (entries m) ((k, a) ∷ []) in
        let more : suc (length (entries m)) ≡ length (entries (insert m k a)) = omega (arith, long) in
        ap (map (λ (e : ℕ × Act). e.0)) entries_next
        ∙ map-append (λ (e : ℕ × Act). e.0) (entries m) ((k, a) ∷ [])
        ∙ ap (λ ks. ks ++ k ∷ []) counted
        ∙ range_behind 1 (length (entries m)) k next
        ∙ ap (range_with_len 1) more

    -- and it is the latest
    pub next_latest : latest_first (insert m k a) ≡ a ∷ latest_first m
    next_latest =
        ap (λ es. reverse (map (λ (e : ℕ × Act). e.1) es)) entries_next
        ∙ ap reverse (map-append (λ (e : ℕ × Act). e.1) (entries m) ((k, a) ∷ []))
        ∙ reverse-append (values m) (a ∷ [])

-- ---- None

abbrev no_acts : FinMap nat_cmp Act
no_acts = empty

none_entries : entries no_acts ≡ []
unfolding IsStrictlySortedBy
none_entries = entries-from_ascending number_keys [] tt

pub none_latest : latest_first no_acts ≡ []
none_latest = ap (λ es. reverse (map (λ (e : ℕ × Act). e.1) es)) none_entries

pub none_counted : AreCounted no_acts
none_counted =
    ap (map (λ (e : ℕ × Act). e.0)) none_entries
    ∙ sym (ap (λ (es : List (ℕ × Act)). range_with_len 1 (length es)) none_entries)
