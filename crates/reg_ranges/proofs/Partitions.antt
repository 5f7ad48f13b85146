-- A list of ranges has no fault exactly where it is a partition.
use Rattle.std.proofs.Common.{◌≡◌, ℕ, ◌+◌, ◌<◌, ◌≤◌, Bool, true, false, cond, nat_lt, nat_le, List, [], ◌∷◌, length, map, Option, Some, None, refl, sym, ◌∙◌, inl, inr, arith}
use Rattle.std.specs.Prelude.{count_by, All, ◌==◌}
use Rattle.std.proofs.lemmas.Bool.{ltb-false, le-ltb, le-leb, lt-leb, and_right, cases_lt, cases_order, eqb-true, eq-eqb}
use Rattle.std.proofs.lemmas.List.Sums.{sum_by-cons}
use Rattle.std.proofs.lemmas.List.Elements.{All-nil, All-cons, All-head, All-tail}
use Rattle.reg_ranges.specs.declared.range.Range.{Range}
use Rattle.reg_ranges.specs.declared.table.RangeFault.{RangeFault}
use Rattle.reg_ranges.specs.declared.table.RangeFault.TheVariants as fault
use Rattle.reg_ranges.specs.Tables.{most_ranges, Table, IsPartition, lies_in}
use Rattle.reg_ranges.specs.Faults.{fault_at, fault_from, first_fault, or_else}
use Rattle.reg_ranges.proofs.Increasing.{Rises, Rises-lower, increasing_from_Rises, rises_any}

-- each range begins where the one before it ended, and the last ends at max
abbrev pub Chain : ℕ → ℕ → List Range → Type 0
Chain next max [] = next ≡ max + 1
Chain next max (r ∷ rs) = (r.lo ≡ next) × (r.lo ≤ r.hi) × Chain (r.hi + 1) max rs

-- ---- no fault is a chain

no_test : (a b c : Bool) (x y z : RangeFault)
    → cond a (Some x) (cond b (Some y) (cond c (Some z) None)) ≡ None
    → (a ≡ false) × (b ≡ false) × (c ≡ false)
no_test true b c x y z h = absurd (cc)
no_test false true c x y z h = absurd (cc)
no_test false false true x y z h = absurd (cc)
no_test false false false x y z h = (refl, refl, refl)

fits : (i next : ℕ) (r : Range) → fault_at i next r ≡ None → (r.lo ≡ next) × (r.lo ≤ r.hi)
fits i next r h =
    let t = no_test (nat_lt r.hi r.lo) (nat_lt next r.lo) (nat_lt r.lo next) (fault.Order i)
    (fault.Gap i) (fault.Overlap i) h in
    let order = ltb-false r.hi r.lo t.0 in
    let gap = ltb-false next r.lo t.1 in
    let overlap = ltb-false r.lo next t.2 in
    (omega arith, omega arith)

no_fault : (i next : ℕ) (r : Range) → r.lo ≡ next → r.lo ≤ r.hi → fault_at i next r ≡ None
no_fault i next r first order =
    rw (le-ltb r.hi r.lo order, le-ltb next r.lo (omega arith), le-ltb r.lo next (omega arith)) refl

both_none : (o p : Option RangeFault) → or_else o p ≡ None → (o ≡ None) × (p ≡ None)
both_none None p h = (refl, h)
both_none (Some f) p h = absurd (cc)

at_end : (a b : ℕ) (f : RangeFault) → cond (a == b) None (Some f) ≡ None → a ≡ b
at_end a b f h =
    elim (a == b) as (λ t. (a == b) ≡ t → cond t None (Some f) ≡ None → a ≡ b) [
      | true ↦ λ e h. eqb-true a b e
      | false ↦ λ e h. absurd (cc)
    ] refl h

pub chain_from_none : (i next max : ℕ) (rs : List Range) → fault_from i next max rs ≡ None
    → Chain next max rs
chain_from_none i next max [] h = at_end next (max + 1) fault.End h
chain_from_none i next max (r ∷ rs) h =
    let b = both_none (fault_at i next r) (fault_from (i + 1) (r.hi + 1) max rs) h in
    let f = fits i next r b.0 in
    (f.0, f.1, chain_from_none (i + 1) (r.hi + 1) max rs b.1)

pub none_from_chain : (i next max : ℕ) (rs : List Range) → Chain next max rs
    → fault_from i next max rs ≡ None
none_from_chain i next max [] h = rw (eq-eqb next (max + 1) h) refl
none_from_chain i next max (r ∷ rs) h =
    rw (no_fault i next r h.0 h.1) (none_from_chain (i + 1) (r.hi + 1) max rs h.2)

-- ---- a chain covers

count_in : (v : ℕ) (r : Range) (rs : List Range) → r.lo ≤ v → v ≤ r.hi
    → count_by (lies_in v) (r ∷ rs) ≡ 1 + count_by (lies_in v) rs
count_in v r rs low high =
    sum_by-cons (λ x. cond (lies_in v x) 1 0) r rs ∙ rw (le-leb r.lo v low, le-leb v r.hi high) refl

count_below : (v : ℕ) (r : Range) (rs : List Range) → v < r.lo
    → count_by (lies_in v) (r ∷ rs) ≡ count_by (lies_in v) rs
count_below v r rs low =
    sum_by-cons (λ x. cond (lies_in v x) 1 0) r rs ∙ rw (lt-leb r.lo v low) (omega arith)

count_above : (v : ℕ) (r : Range) (rs : List Range) → r.hi < v
    → count_by (lies_in v) (r ∷ rs) ≡ count_by (lies_in v) rs
count_above v r rs high =
    sum_by-cons (λ x. cond (lies_in v x) 1 0) r rs
    ∙ rw (and_right (nat_le r.lo v) (nat_le v r.hi) (lt-leb v r.hi high)) (omega arith)

-- the ranges have each number from next to max once, and no other
record Covers (next max : ℕ) (rs : List Range) : Type 0 where
  small : next ≤ max + 1
  below : (v : ℕ) → v < next → count_by (lies_in v) rs ≡ 0
  within : (v : ℕ) → next ≤ v → v ≤ max → count_by (lies_in v) rs ≡ 1
  above : (v : ℕ) → max < v → count_by (lies_in v) rs ≡ 0

covers : (next max : ℕ) (rs : List Range) → Chain next max rs → Covers next max rs
covers next max [] h = record {
  small = omega arith;
  below = λ v lt. refl;
  within = λ v low high. absurd (omega arith);
  above = λ v lt. refl;
}
covers next max (r ∷ rs) h =
    let more = covers (r.hi + 1) max rs h.2 in
    record {
      small = omega arith;
      below = λ v lt. count_below v r rs (omega arith) ∙ more.below v (omega arith);
      within = λ v low high. elim (cases_lt r.hi v) [
        | inl past ↦ count_above v r rs past ∙ more.within v (omega arith) high
        | inr here ↦ count_in v r rs (omega arith) here ∙ rw (more.below v (omega arith)) refl
      ];
      above = λ v lt. count_above v r rs (omega arith) ∙ more.above v lt;
    }

rises : (next max : ℕ) (rs : List Range) → Chain next max rs → Rises next (map (λ r. r.lo) rs)
rises next max [] h = tt
rises next max (r ∷ rs) h = (
  omega arith,
  Rises-lower (r.lo + 1) (r.hi + 1) (map (λ r. r.lo) rs) (omega arith)
      (rises (r.hi + 1) max rs h.2),
)

none_empty : (next max : ℕ) (rs : List Range) → Chain next max rs → All (λ r. r.lo ≤ r.hi) rs
none_empty next max [] h = All-nil (λ r. r.lo ≤ r.hi)
none_empty next max (r ∷ rs) h =
    All-cons (λ r. r.lo ≤ r.hi) r rs h.1 (none_empty (r.hi + 1) max rs h.2)

partition_from_chain : (max : ℕ) (rs : List Range) → 1 ≤ length rs → length rs ≤ most_ranges → Chain 0 max rs
    → IsPartition (record {
      max = max;
      ranges = rs;
    })
partition_from_chain max rs some few h =
    let c = covers 0 max rs h in
    record {
      some = some;
      few = few;
      ascending = increasing_from_Rises 0 (map (λ r. r.lo) rs) (rises 0 max rs h);
      none_empty = none_empty 0 max rs h;
      covered = λ v small. c.within v (omega arith) small;
      no_other = c.above;
    }

not_too_many : (n : ℕ) (f : RangeFault) (o : Option RangeFault)
    → cond (nat_lt most_ranges n) (Some f) o ≡ None → (n ≤ most_ranges) × (o ≡ None)
not_too_many n f o h =
    elim (nat_lt most_ranges n) as
    (λ t. nat_lt most_ranges n ≡ t → cond t (Some f) o ≡ None → (n ≤ most_ranges) × (o ≡ None)) [
      | true ↦ λ e h. absurd (cc)
      | false ↦ λ e h. (ltb-false most_ranges n e, h)
    ] refl h

pub partition_from_none : (max : ℕ) (rs : List Range) → first_fault max rs ≡ None
    → IsPartition (record {
      max = max;
      ranges = rs;
    })
partition_from_none max [] h = absurd (cc)
partition_from_none max (r ∷ rs) h =
    let n = not_too_many (length (r ∷ rs)) fault.TooMany (fault_from 0 0 max (r ∷ rs)) h in
    partition_from_chain max (r ∷ rs) (omega arith) n.0 (chain_from_none 0 0 max (r ∷ rs) n.1)

-- ---- what covers is a chain

-- a number below all beginnings lies in no range
none_below : (v bound : ℕ) (rs : List Range) → v < bound → Rises bound (map (λ r. r.lo) rs)
    → count_by (lies_in v) rs ≡ 0
none_below v bound [] lt h = refl
none_below v bound (r ∷ rs) lt h =
    count_below v r rs (omega arith) ∙ none_below v (r.lo + 1) rs (omega arith) h.1

first_begins : (next max : ℕ) (r : Range) (rs : List Range) → Covers next max (r ∷ rs) → r.lo ≤ r.hi
    → Rises (r.lo + 1) (map (λ r. r.lo) rs) → r.lo ≡ next
first_begins next max r rs c order rise =
    let here = count_in r.lo r rs (omega arith) order in
    elim (cases_order r.lo next) [
      | inl same ↦ same
      | inr (inl low) ↦ absurd (let no = c.below r.lo low in omega arith)
      | inr (inr high) ↦ elim (cases_lt max r.lo) [
        | inl past ↦ absurd (let no = c.above r.lo past in omega arith)
        | inr small ↦
            absurd (let once = c.within next (omega arith) (omega arith) in let never =
            count_below next r rs high ∙ none_below next (r.lo + 1) rs (omega arith) rise in
            omega arith)
      ]
    ]

covers_rest : (next max : ℕ) (r : Range) (rs : List Range) → Covers next max (r ∷ rs) → r.lo ≡ next
    → r.lo ≤ r.hi → Covers (r.hi + 1) max rs
covers_rest next max r rs c first order =
    let end : r.hi ≤ max = elim (cases_lt max r.hi) [
      | inl past ↦
          absurd (let never = c.above r.hi past in let once =
          count_in r.hi r rs order (omega arith) in omega arith)
      | inr small ↦ small
    ] in
    record {
      small = omega arith;
      below = λ v lt. elim (cases_lt v r.lo) [
        | inl low ↦ sym (count_below v r rs low) ∙ c.below v (omega arith)
        | inr here ↦ let once = c.within v (omega arith) (omega arith) in let one =
            count_in v r rs here (omega arith) in omega arith
      ];
      within = λ v low high. sym (count_above v r rs (omega arith)) ∙ c.within v (omega arith) high;
      above = λ v lt. sym (count_above v r rs (omega arith)) ∙ c.above v lt;
    }

chain_from_covers : (next max : ℕ) (rs : List Range) → Covers next max rs
    → All (λ r. r.lo ≤ r.hi) rs → (bound : ℕ) → Rises bound (map (λ r. r.lo) rs) → Chain next max rs
chain_from_covers next max [] c each bound rise =
    elim (cases_lt max next) [
      | inl past ↦ let small = c.small in omega arith
      | inr low ↦ absurd (let once = c.within next (omega arith) low in omega arith)
    ]
chain_from_covers next max (r ∷ rs) c each bound rise =
    let order : r.lo ≤ r.hi = All-head (λ r. r.lo ≤ r.hi) r rs each in
    let first = first_begins next max r rs c order rise.1 in (
      first,
      order,
      chain_from_covers (r.hi + 1) max rs (covers_rest next max r rs c first order)
          (All-tail (λ r. r.lo ≤ r.hi) r rs each) (r.lo + 1) rise.1,
    )

pub chain_from_partition : (table : Table) → IsPartition table → Chain 0 table.max table.ranges
chain_from_partition table p =
    let c : Covers 0 table.max table.ranges =
    record {
      small = omega arith;
      below = λ v lt. absurd (omega arith);
      within = λ v low high. p.covered v high;
      above = p.no_other;
    } in
    chain_from_covers 0 table.max table.ranges c p.none_empty 0
    (rises_any (map (λ r. r.lo) table.ranges) p.ascending)

pub none_from_partition : (max : ℕ) (rs : List Range)
    → IsPartition (record { max = max; ranges = rs }) → first_fault max rs ≡ None
none_from_partition max [] p = absurd (let some = p.some in omega arith)
none_from_partition max (r ∷ rs) p =
    rw (le-ltb most_ranges (length (r ∷ rs)) p.few)
    (none_from_chain 0 0 max (r ∷ rs)
    (chain_from_partition (record { max = max; ranges = r ∷ rs }) p))
