-- The least free value: a walk over the ranges finds it, so does the search, and there is no
-- other.
use Rattle.std.proofs.Common.{◌≡◌, ℕ, zero, suc, ◌+◌, ◌<◌, ◌≤◌, Bool, true, false, cond, not, nat_eq, List, [], ◌∷◌, length, get_or, drop, Option, Some, None, refl, sym, ap, ◌∙◌, ◌⊎◌, inl, inr, arith, add-one, drop-cons}
use Rattle.std.specs.Prelude.{Contains, IsTrue, IsNone, ◌↔◌, find}
use Rattle.std.specs.Bool.{Decides}
use Rattle.std.specs.List.{list_any, range_with_len}
use Rattle.std.proofs.lemmas.Bool.{cases_lt, cases_order, le-leb, eqb-true, eqb-false, and_parts, and_cases, or_cases, or_parts, not-true, not-false}
use Rattle.std.proofs.lemmas.List.{drop_all}
use Rattle.reg_ranges.specs.declared.range.Range.{Range}
use Rattle.reg_ranges.specs.declared.policy.Policy.{Policy}
use Rattle.reg_ranges.specs.declared.policy.Treatment.TheVariants as treatment
use Rattle.reg_ranges.specs.Tables.{Table, IsPartition, lies_in, treatment_of}
use Rattle.reg_ranges.specs.FreeValues.{TreatsByPolicy, IsLeastFree, IsLeastFreeWhere, IsLeastIn, is_under, is_free, least_value}
use Rattle.reg_ranges.specs.Sameness.{same_treatment}
use Rattle.reg_ranges.proofs.SamenessDecides.{option_decided, treatment_decided}
use Rattle.reg_ranges.proofs.Partitions.{Chain, chain_from_partition}
use Rattle.reg_ranges.proofs.Treatments.{treatment_in, treatment_above}
use Rattle.reg_ranges.proofs.LeastGap.{has_cases}

-- ---- the walk over the ranges

-- each value under the policy below the ranges that are left is taken
pub record Searched (table : Table) (p : Policy) (Taken : ℕ → Type 0) (left : List Range) : Type 0
  where
    pub next : ℕ
    pub chain : Chain next table.max left
    pub all_taken : (u : ℕ) → u < next → TreatsByPolicy table p u → Taken u

pub search_starts : (table : Table) (p : Policy) (Taken : ℕ → Type 0) → IsPartition table
    → Searched table p Taken table.ranges
search_starts table p Taken partition = record {
  next = 0;
  chain = chain_from_partition table partition;
  all_taken = λ u lt under. absurd (omega arith);
}

lies : (range : Range) (u : ℕ) → range.lo ≤ u → u ≤ range.hi → IsTrue (lies_in u range)
lies range u low high = rw (le-leb range.lo u low, le-leb u range.hi high) refl

under_as_range : (table : Table) (p : Policy) (range : Range) (u : ℕ) → IsPartition table
    → Contains table.ranges range → range.lo ≤ u → u ≤ range.hi
    → TreatsByPolicy table p u → range.treatment ≡ treatment.Under p
under_as_range table p range u partition has low high under =
    let of = treatment_in table partition range u has (lies range u low high) in cc

search_goes_on : (table : Table) (p : Policy) (Taken : ℕ → Type 0) (range : Range)
    (rest : List Range)
    → IsPartition table → Contains table.ranges range
    → Searched table p Taken (range ∷ rest) → IsLeastIn range p Taken None
    → Searched table p Taken rest
search_goes_on table p Taken range rest partition has s full = record {
  next = range.hi + 1;
  chain = s.chain.2;
  all_taken = λ u lt under. elim (cases_lt u s.next) [
    | inl before ↦ s.all_taken u before under
    | inr here ↦
        let first : range.lo ≡ s.next = s.chain.0 in
        let low : range.lo ≤ u = omega arith in
        let high : u ≤ range.hi = omega arith in
        full (under_as_range table p range u partition has low high under) u low high
  ];
}

search_finds : (table : Table) (p : Policy) (Taken : ℕ → Type 0) (range : Range)
    (rest : List Range)
    (v : ℕ) → IsPartition table → Contains table.ranges range
    → Searched table p Taken (range ∷ rest) → IsLeastIn range p Taken (Some v)
    → IsLeastFreeWhere table p Taken (Some v)
search_finds table p Taken range rest v partition has s least =
    let gap = least.1 in
    let under : TreatsByPolicy table p v =
    treatment_in table partition range v has (lies range v gap.0 gap.1) ∙ ap Some least.0 in (
      under,
      gap.2,
      λ u lt at. elim (cases_lt u s.next) [
        | inl before ↦ s.all_taken u before at
        | inr here ↦ let first : range.lo ≡ s.next = s.chain.0 in gap.3 u (omega arith) lt
      ],
    )

under_max : (table : Table) (p : Policy) (u : ℕ) → IsPartition table → TreatsByPolicy table p u
    → u ≤ table.max
under_max table p u partition under = elim (cases_lt table.max u) [
  | inl past ↦
      absurd (let none = (treatment_above table partition u).1 past in
      let some : IsNone (Some (treatment.Under p)) = rw under at none in cc)
  | inr small ↦ small
]

search_ends : (table : Table) (p : Policy) (Taken : ℕ → Type 0) → IsPartition table
    → Searched table p Taken [] → IsLeastFreeWhere table p Taken None
search_ends table p Taken partition s u under =
    let small = under_max table p u partition under in
    let end : s.next ≡ table.max + 1 = s.chain in
    s.all_taken u (omega arith) under

-- the walk stands at the i-th range
record At (table : Table) (p : Policy) (Taken : ℕ → Type 0) (i : ℕ) (range : Range) : Type 0 where
  pub has : Contains table.ranges range
  pub searched : Searched table p Taken (range ∷ drop (i + 1) table.ranges)

search_at : (table : Table) (p : Policy) (Taken : ℕ → Type 0) (i : ℕ) (range : Range)
    → i < length table.ranges → range ≡ get_or table.ranges i range
    → Searched table p Taken (drop i table.ranges) → At table p Taken i range
search_at table p Taken i range lt is s =
    let at : drop i table.ranges ≡ range ∷ drop (i + 1) table.ranges =
    rw add-one
    (drop-cons table.ranges i range lt
    ∙ ap (λ x. x ∷ drop (suc i) table.ranges) (sym is)) in
    record { has = (i, lt, sym is); searched = rw at at s }

pub turn_goes_on : (table : Table) (p : Policy) (Taken : ℕ → Type 0) (items : List Range) (i : ℕ)
    (range : Range) → items ≡ table.ranges → IsPartition table → i < length items
    → range ≡ get_or items i range → Searched table p Taken (drop i table.ranges)
    → IsLeastIn range p Taken None → Searched table p Taken (drop (i + 1) table.ranges)
turn_goes_on table p Taken items i range of partition lt is s full =
    let at = search_at table p Taken i range (rw of at lt) (rw of at is) s in
    search_goes_on table p Taken range (drop (i + 1) table.ranges) partition at.has at.searched
    full

pub turn_finds : (table : Table) (p : Policy) (Taken : ℕ → Type 0) (items : List Range) (i : ℕ)
    (range : Range) (v : ℕ) → items ≡ table.ranges → IsPartition table → i < length items
    → range ≡ get_or items i range → Searched table p Taken (drop i table.ranges)
    → IsLeastIn range p Taken (Some v) → IsLeastFreeWhere table p Taken (Some v)
turn_finds table p Taken items i range v of partition lt is s least =
    let at = search_at table p Taken i range (rw of at lt) (rw of at is) s in
    search_finds table p Taken range (drop (i + 1) table.ranges) v partition at.has at.searched
    least

pub turns_end : (table : Table) (p : Policy) (Taken : ℕ → Type 0) (items : List Range) (i : ℕ)
    → items ≡ table.ranges → IsPartition table → length items ≤ i
    → Searched table p Taken (drop i table.ranges) → IsLeastFreeWhere table p Taken None
turns_end table p Taken items i of partition le s =
    let past : drop i table.ranges ≡ [] = drop_all i table.ranges (rw of at le) in
    search_ends table p Taken partition (rw past at s)

-- ---- there is one least free value

one_least : (table : Table) (p : Policy) (taken : List ℕ) (a b : Option ℕ)
    → IsLeastFree table p taken a → IsLeastFree table p taken b → a ≡ b
one_least table p taken None None all others = refl
one_least table p taken None (Some w) all least = absurd (least.1 (all w least.0))
one_least table p taken (Some v) None least all = absurd (least.1 (all v least.0))
one_least table p taken (Some v) (Some w) first second = elim (cases_order v w) [
  | inl same ↦ ap Some same
  | inr (inl less) ↦ absurd (first.1 (second.2 v less first.0))
  | inr (inr more) ↦ absurd (second.1 (first.2 w more second.0))
]

-- ---- the search finds it

under_decided : (table : Table) (p : Policy) (v : ℕ)
    → Decides (is_under table p v) (TreatsByPolicy table p v)
under_decided table p v =
    option_decided same_treatment treatment_decided (treatment_of table v)
    (Some (treatment.Under p))

any_has : (u : ℕ) (xs : List ℕ) → list_any (nat_eq u) xs ≡ true → Contains xs u
any_has u [] h = absurd (cc)
any_has u (x ∷ xs) h = elim (or_cases (nat_eq u x) (list_any (nat_eq u) xs) h) [
  | inl here ↦ (0, omega arith, sym (eqb-true u x here))
  | inr more ↦ let later = any_has u xs more in
      (suc later.0, let below = later.1 in omega arith, later.2)
]

any_not : (u : ℕ) (xs : List ℕ) → list_any (nat_eq u) xs ≡ false → ¬ (Contains xs u)
any_not u [] h has = absurd (let below = has.1 in omega arith)
any_not u (x ∷ xs) h has =
    let parts = or_parts (nat_eq u x) (list_any (nat_eq u) xs) h in
    elim (has_cases x xs u has) [
      | inl same ↦ eqb-false u x parts.0 (sym same)
      | inr more ↦ any_not u xs parts.1 more
    ]

free_true : (table : Table) (p : Policy) (taken : List ℕ) (v : ℕ) → is_free table p taken v ≡ true
    → TreatsByPolicy table p v × ¬ (Contains taken v)
free_true table p taken v h =
    let parts = and_parts (is_under table p v) (not (list_any (nat_eq v) taken)) h in (
      (under_decided table p v).0 parts.0,
      any_not v taken (not-true (list_any (nat_eq v) taken) parts.1),
    )

free_false : (table : Table) (p : Policy) (taken : List ℕ) (v : ℕ)
    → is_free table p taken v ≡ false
    → TreatsByPolicy table p v → Contains taken v
free_false table p taken v h under =
    elim (and_cases (is_under table p v) (not (list_any (nat_eq v) taken)) h) [
      | inl none ↦ absurd (let some = (under_decided table p v).1 under in cc)
      | inr taken_there ↦ any_has v taken (not-false (list_any (nat_eq v) taken) taken_there)
    ]

-- what `find` finds in numbers that follow one another is the least
abbrev IsFirst : (ℕ → Bool) → ℕ → ℕ → Option ℕ → Type 0
IsFirst test a n None = (u : ℕ) → a ≤ u → u < a + n → test u ≡ false
IsFirst test a n (Some v) = (test v ≡ true) × ((u : ℕ) → a ≤ u → u < v → test u ≡ false)

first_or_later : (test : ℕ → Bool) (a u : ℕ) → test a ≡ false → a ≤ u
    → (test u ≡ false) ⊎ (a + 1 ≤ u)
first_or_later test a u h le = elim (cases_lt a u) [
  | inl later ↦ inr (omega arith)
  | inr here ↦ inl (let same : a ≡ u = omega arith in rw same at h)
]

goes_on : (test : ℕ → Bool) (a n : ℕ) (o : Option ℕ) → test a ≡ false → IsFirst test (a + 1) n o
    → IsFirst test a (suc n) o
goes_on test a n None h rest =
    λ u low high. elim (first_or_later test a u h low)
    [ inl here ↦ here | inr later ↦ rest u later (omega arith) ]
goes_on test a n (Some v) h rest = (
  rest.0,
  λ u low high. elim (first_or_later test a u h low)
      [ inl here ↦ here | inr later ↦ rest.1 u later high ],
)

first_is_first : (test : ℕ → Bool) (a n : ℕ) → IsFirst test a n (find test (range_with_len a n))
first_is_first test a zero = λ u low high. absurd (omega arith)
first_is_first test a (suc n) =
    elim (test a) as
    (λ b. test a ≡ b → IsFirst test a (suc n)
    (cond b (Some a) (find test (range_with_len (a + 1) n)))) [
      | true ↦ λ h. (h, λ u low high. absurd (omega arith))
      | false ↦
          λ h. goes_on test a n (find test (range_with_len (a + 1) n)) h
          (first_is_first test (a + 1) n)
    ] refl

least_from : (table : Table) (p : Policy) (taken : List ℕ) (o : Option ℕ) → IsPartition table
    → IsFirst (is_free table p taken) 0 (table.max + 1) o → IsLeastFree table p taken o
least_from table p taken None partition first =
    λ u under. let small = under_max table p u partition under in
    free_false table p taken u (first u (omega arith) (omega arith)) under
least_from table p taken (Some v) partition first =
    let free = free_true table p taken v first.0 in
    (free.0, free.1, λ u lt under. free_false table p taken u (first.1 u (omega arith) lt) under)

pub least_value_is_least : (table : Table) → IsPartition table → (p : Policy) (taken : List ℕ)
    → IsLeastFree table p taken (least_value table p taken)
unfolding least_value
least_value_is_least table partition p taken =
    least_from table p taken (find (is_free table p taken) (range_with_len 0 (table.max + 1)))
    partition (first_is_first (is_free table p taken) 0 (table.max + 1))

pub is_least_value : (table : Table) → IsPartition table
    → (p : Policy) (taken : List ℕ) (o : Option ℕ) → IsLeastFree table p taken o
    → o ≡ least_value table p taken
is_least_value table partition p taken o is =
    one_least table p taken o (least_value table p taken) is
    (least_value_is_least table partition p taken)

-- ---- by another form of what is taken

pub same_where : (table : Table) (p : Policy) (P Q : ℕ → Type 0) → ((n : ℕ) → P n ↔ Q n)
    → (o : Option ℕ) → IsLeastFreeWhere table p P o → IsLeastFreeWhere table p Q o
same_where table p P Q same None all = λ u under. (same u).0 (all u under)
same_where table p P Q same (Some v) least =
    (least.0, λ taken. least.1 ((same v).1 taken), λ u lt under. (same u).0 (least.2 u lt under))

pub is_value_where : (table : Table) → IsPartition table → (p : Policy) (P : ℕ → Type 0)
    (taken : List ℕ) → ((n : ℕ) → P n ↔ Contains taken n) → (o : Option ℕ)
    → IsLeastFreeWhere table p P o → o ≡ least_value table p taken
is_value_where table partition p P taken same o is =
    is_least_value table partition p taken o (same_where table p P (Contains taken) same o is)
