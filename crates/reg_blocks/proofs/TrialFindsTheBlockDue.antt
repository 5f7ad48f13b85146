-- Trial of each block in order finds the block due, and no other answer is one.
use Rattle.std.proofs.Common.{◌≡◌, ℕ, zero, suc, ◌+◌, ◌*◌, ◌^◌, ◌<◌, ◌≤◌, inl, inr, Bool, true, false, cond, not, List, [], ◌∷◌, ◌++◌, length, get_or, refl, sym, ap, ◌∙◌, subst, arith}
use Rattle.std.specs.Prelude.{All, Contains, Option, Some, None, IfSome, IsNone, ◌↔◌, Decides, map, find, flat_map}
use Rattle.std.specs.List.{list_all, range_with_len, AllByRecursion}
use Rattle.std.specs.List.Sorted.{IsStrictlyIncreasing}
use Rattle.std.proofs.lemmas.Bool.{cases_lt}
use Rattle.std.proofs.lemmas.Bool.Decides.{nat_tests}
use Rattle.std.proofs.lemmas.List.{get_or_default}
use Rattle.std.proofs.lemmas.List.Sums.{AllPass-from_list_all, list_all-from_AllPass}
use Rattle.std.proofs.lemmas.List.Elements.{recursion_from_All}
use Rattle.reg_blocks.specs.declared.size.Size.{Size}
use Rattle.reg_blocks.specs.declared.size.Size.TheVariants.{MaL}
use Rattle.reg_blocks.specs.Size.{address_count, blocks_in_prefix}
use Rattle.reg_blocks.specs.Block.{SizedPrefix, Clash, first_address, last_address, leading_24, ends_meet}
use Rattle.reg_blocks.specs.Due.{IsFree, IsDue, NoneIsFree, blocks_in, block_due}
use Rattle.reg_blocks.proofs.InsertedPrefixes.{ascends_far, contains_cons}
use Rattle.reg_blocks.proofs.EndsDecideClash.{sized, of_every, apart_before, apart_after, clash_by_ends, candidate-low, candidate-high, candidate-leading, first-up}
use Rattle.reg_blocks.proofs.BlockDue.{in_leading}

-- ---- the test of a shared address
ends : (a b : SizedPrefix) → ends_meet a b ≡ true
    → (first_address a ≤ last_address b) × (first_address b ≤ last_address a)
ends a b h = (grind (arith, nat_tests), grind (arith, nat_tests))

ends_back : (a b : SizedPrefix) → first_address a ≤ last_address b
    → first_address b ≤ last_address a → ends_meet a b ≡ true
ends_back a b h k = grind (arith, nat_tests)

pub ends_meet-Decides : (a b : SizedPrefix) → Decides (ends_meet a b) (Clash a b)
ends_meet-Decides a b = (forth, back)
  where
    forth : ends_meet a b ≡ true → Clash a b
    forth h = let e = ends a b h in clash_by_ends a b e.0 e.1

    back : Clash a b → ends_meet a b ≡ true
    back c =
        elim (cases_lt (last_address b) (first_address a)) [
          | inl h ↦ absurd (apart_after a b h c)
          | inr h ↦ elim (cases_lt (last_address a) (first_address b)) [
            | inl k ↦ absurd (apart_before a b k c)
            | inr k ↦ ends_back a b h k
          ]
        ]

abbrev is_apart : List SizedPrefix → SizedPrefix → Bool
is_apart given block = list_all (λ other. not (ends_meet block other)) given

apart_from_test : (given : List SizedPrefix) (block : SizedPrefix) → is_apart given block ≡ true
    → All (λ other. ¬ Clash block other) given
apart_from_test given block h k d lt meets =
    let pass = AllPass-from_list_all (λ other. not (ends_meet block other)) given h k d lt in
    let meet = (ends_meet-Decides block (get_or given k d)).1 meets in
    let no : false ≡ true = subst (λ (b : Bool). not b ≡ true) meet pass in
    cc

fails : (b : Bool) (P : Type 0) → Decides b P → ¬ P → not b ≡ true
fails true P d h = absurd (h (d.0 refl))
fails false P d h = refl

test_from_apart : (given : List SizedPrefix) (block : SizedPrefix)
    → All (λ other. ¬ Clash block other) given → is_apart given block ≡ true
test_from_apart given block h =
    list_all-from_AllPass (λ other. not (ends_meet block other)) given
    (λ k d lt. fails _ _ (ends_meet-Decides block (get_or given k d)) (h k d lt))

-- ---- lists
module _ {X : Type 0} where
  all_map : (P Q : X → Type 0) → ((x : X) → P x → Q x) → (xs : List X) → AllByRecursion P xs
      → AllByRecursion Q xs
  all_map P Q g [] h = tt
  all_map P Q g (x ∷ xs) h = (g x h.0, all_map P Q g xs h.1)

  all_append : (P : X → Type 0) (xs ys : List X) → AllByRecursion P xs → AllByRecursion P ys
      → AllByRecursion P (xs ++ ys)
  all_append P [] ys h k = k
  all_append P (x ∷ xs) ys h k = (h.0, all_append P xs ys h.1 k)

  all_left : (P : X → Type 0) (xs ys : List X) → AllByRecursion P (xs ++ ys) → AllByRecursion P xs
  all_left P [] ys h = tt
  all_left P (x ∷ xs) ys h = (h.0, all_left P xs ys h.1)

  all_right : (P : X → Type 0) (xs ys : List X) → AllByRecursion P (xs ++ ys) → AllByRecursion P ys
  all_right P [] ys h = h
  all_right P (x ∷ xs) ys h = all_right P xs ys h.1

  -- no element is followed by one with a lesser number
  abbrev Ascends : (X → ℕ) → List X → Type 0
  Ascends f [] = Unit {0}
  Ascends f (x ∷ xs) = AllByRecursion (λ y. f x ≤ f y) xs × Ascends f xs

  ascends-append : (f : X → ℕ) (xs ys : List X) → Ascends f xs → Ascends f ys
      → AllByRecursion (λ x. AllByRecursion (λ y. f x ≤ f y) ys) xs → Ascends f (xs ++ ys)
  ascends-append f [] ys h k c = k
  ascends-append f (x ∷ xs) ys h k c =
      (all_append (λ y. f x ≤ f y) xs ys h.0 c.0, ascends-append f xs ys h.1 k c.1)

  -- the first element that passes the test: one of the list, and of those that pass the least
  abbrev IsFirst : (X → ℕ) → (X → Bool) → (X → Type 0) → List X → Option X → Type 0
  IsFirst f p Q xs None = AllByRecursion (λ y. p y ≡ false) xs
  IsFirst f p Q xs (Some b) = (p b ≡ true) × Q b × AllByRecursion (λ y. p y ≡ true → f b ≤ f y) xs

  skip : (f : X → ℕ) (p : X → Bool) (Q : X → Type 0) (x : X) (xs : List X) (o : Option X)
      → p x ≡ false → IsFirst f p Q xs o → IsFirst f p Q (x ∷ xs) o
  skip f p Q x xs None e r = (e, r)
  skip f p Q x xs (Some b) e r =
      (r.0, r.1, ((λ t. let h : true ≡ false = sym t ∙ e in absurd (cc)), r.2))

  first : (f : X → ℕ) (p : X → Bool) (Q : X → Type 0) (xs : List X) → Ascends f xs
      → AllByRecursion Q xs → IsFirst f p Q xs (find p xs)
  first f p Q [] h q = tt
  first f p Q (x ∷ xs) h q =
      elim (p x) as (λ b. p x ≡ b → IsFirst f p Q (x ∷ xs) (cond b (Some x) (find p xs))) [
        | true ↦
            λ e. (
              e,
              q.0,
              (
                (λ _. omega arith),
                all_map (λ y. f x ≤ f y) (λ y. p y ≡ true → f x ≤ f y)
                    (λ y le _. le) xs h.0,
              ),
            )
        | false ↦ λ e. skip f p Q x xs (find p xs) e (first f p Q xs h.1 q.1)
      ] refl

-- ---- a range of numbers
module _ {X : Type 0} (g : ℕ → X) where
  all_range : (P : X → Type 0) (a n : ℕ) → ((k : ℕ) → a ≤ k → k < a + n → P (g k))
      → AllByRecursion P (map g (range_with_len a n))
  all_range P a zero h = tt
  all_range P a (suc n) h = (
    h a (omega arith) (omega arith),
    all_range P (a + 1) n (λ k lo hi. h k (omega arith) (omega arith)),
  )

  range_all : (P : X → Type 0) (a n : ℕ) → AllByRecursion P (map g (range_with_len a n)) → (k : ℕ)
      → a ≤ k → k < a + n → P (g k)
  range_all P a zero h k lo hi = absurd (omega arith)
  range_all P a (suc n) h k lo hi =
      elim (cases_lt a k) [
        | inl q ↦ range_all P (a + 1) n h.1 k (omega arith) (omega arith)
        | inr q ↦ let e : a ≡ k = omega arith in subst (λ (x : ℕ). P (g x)) e h.0
      ]

  ascends-range : (f : X → ℕ) → ((k l : ℕ) → k ≤ l → f (g k) ≤ f (g l)) → (a n : ℕ)
      → Ascends f (map g (range_with_len a n))
  ascends-range f up a zero = tt
  ascends-range f up a (suc n) = (
    all_range (λ y. f (g a) ≤ f y) (a + 1) n (λ k lo hi. up a k (omega arith)),
    ascends-range f up (a + 1) n,
  )

-- ---- the blocks of a size in a pool
module _ (size : Size) where
  abbrev IsIn : ℕ → SizedPrefix → Type 0
  IsIn p b = (b.size ≡ size) × (leading_24 b ≡ p)

  in_prefix : (p : ℕ) → AllByRecursion (IsIn p) (blocks_in size p)
  in_prefix p =
      all_range (sized size) (IsIn p) (p * blocks_in_prefix size) (blocks_in_prefix size)
      (λ k lo hi. (refl, candidate-leading size p k lo hi))

  ascends-in : (p : ℕ) → Ascends first_address (blocks_in size p)
  ascends-in p =
      ascends-range (sized size) first_address (first-up size) (p * blocks_in_prefix size)
      (blocks_in_prefix size)

  -- what holds of all candidates of the prefix holds of each of its blocks
  in_its : (P : SizedPrefix → Type 0) (p k : ℕ) → leading_24 (sized size k) ≡ p
      → AllByRecursion P (blocks_in size p) → P (sized size k)
  in_its P p k e h =
      range_all (sized size) P (p * blocks_in_prefix size) (blocks_in_prefix size) h k
      (candidate-low size p k e) (candidate-high size p k e)

  pick : (P : SizedPrefix → Type 0) (pool : List ℕ) (k : ℕ)
      → Contains pool (leading_24 (sized size k))
      → AllByRecursion P (flat_map (blocks_in size) pool) → P (sized size k)
  pick P [] k (j, lt, e) h = absurd (omega arith)
  pick P (p ∷ ps) k c h =
      elim (contains_cons ps p (leading_24 (sized size k)) c) [
        | inl e ↦ in_its P p k e (all_left P (blocks_in size p) (flat_map (blocks_in size) ps) h)
        | inr d ↦ pick P ps k d (all_right P (blocks_in size p) (flat_map (blocks_in size) ps) h)
      ]

  abbrev IsOfPool : List ℕ → SizedPrefix → Type 0
  IsOfPool pool b = (b.size ≡ size) × Contains pool (leading_24 b)

  of_pool : (pool : List ℕ) → AllByRecursion (IsOfPool pool) (flat_map (blocks_in size) pool)
  of_pool [] = tt
  of_pool (p ∷ ps) =
      all_append (IsOfPool (p ∷ ps)) (blocks_in size p) (flat_map (blocks_in size) ps)
      (all_map (IsIn p) (IsOfPool (p ∷ ps)) (λ b i. (i.0, (zero, omega arith, sym i.1)))
      (blocks_in size p) (in_prefix p))
      (all_map (IsOfPool ps) (IsOfPool (p ∷ ps))
      (λ b i. (i.0, (suc i.1.0, omega (arith, i.1.1), i.1.2))) (flat_map (blocks_in size) ps)
      (of_pool ps))

  -- where prefixes ascend, so do their blocks
  abbrev Rises : List ℕ → Type 0
  Rises [] = Unit {0}
  Rises (p ∷ ps) = AllByRecursion (λ q. p < q) ps × Rises ps

  later : (n : ℕ) (ps : List ℕ) → AllByRecursion (λ q. n < q) ps
      → AllByRecursion (λ b. (n + 1) * 2 ^ 24 ≤ first_address b) (flat_map (blocks_in size) ps)
  later n [] h = tt
  later n (p ∷ ps) h =
      all_append (λ b. (n + 1) * 2 ^ 24 ≤ first_address b) (blocks_in size p)
      (flat_map (blocks_in size) ps)
      (all_map (IsIn p) (λ b. (n + 1) * 2 ^ 24 ≤ first_address b) (λ b i. above p b h.0 i.1)
      (blocks_in size p) (in_prefix p)) (later n ps h.1)
    where
      above : (p : ℕ) (b : SizedPrefix) → n < p → leading_24 b ≡ p
          → (n + 1) * 2 ^ 24 ≤ first_address b
      above p b lt e = let bounds = in_leading b.size b.prefix in omega (arith, bounds.0)

  ascends-all : (pool : List ℕ) → Rises pool
      → Ascends first_address (flat_map (blocks_in size) pool)
  ascends-all [] h = tt
  ascends-all (p ∷ ps) h =
      ascends-append first_address (blocks_in size p) (flat_map (blocks_in size) ps) (ascends-in p)
      (ascends-all ps h.1)
      (all_map (IsIn p)
      (λ x. AllByRecursion (λ y. first_address x ≤ first_address y)
      (flat_map (blocks_in size) ps))
      (λ x i. all_map (λ y. (p + 1) * 2 ^ 24 ≤ first_address y)
      (λ y. first_address x ≤ first_address y) (λ y le. below x y i.1 le)
      (flat_map (blocks_in size) ps) (later p ps h.0)) (blocks_in size p) (in_prefix p))
    where
      below : (x y : SizedPrefix) → leading_24 x ≡ p → (p + 1) * 2 ^ 24 ≤ first_address y
          → first_address x ≤ first_address y
      below x y e le = let bounds = in_leading x.size x.prefix in omega (arith, bounds.1)

-- ---- the answer
-- what least_free ensures of its result
pub record IsAnswer (pool : List ℕ) (given : List SizedPrefix) (size : Size)
    (o : Option SizedPrefix) : Type 0 where
  pub due : IfSome o (IsDue pool given size)
  pub none : IsNone o ↔ NoneIsFree pool given size

-- each prefix is below each later one
abbrev Far : List ℕ → Type 0
Far pool = (i j : ℕ) → i < j → j < length pool → get_or pool i 0 < get_or pool j 0

rises : (size : Size) (pool : List ℕ) → Far pool → Rises size pool
rises size [] far = tt
rises size (p ∷ ps) far = (
  recursion_from_All (λ q. p < q) ps
      (λ k d lt. let h = far 0 (suc k) (omega arith) (omega arith) in let same =
      get_or_default ps k 0 d lt in omega arith),
  rises size ps (λ i j h lt. far (suc i) (suc j) (omega arith) (omega arith)),
)

module _ (pool : List ℕ) (given : List SizedPrefix) (size : Size) where
  from_first : (o : Option SizedPrefix)
      → IsFirst first_address (is_apart given) (IsOfPool size pool) (flat_map (blocks_in size) pool)
      o → IsAnswer pool given size o
  from_first None h =
      record {
        due = tt;
        none = (
          (λ _. of_every (λ b. ¬ IsFree pool given b) size (λ k free.
              let t = test_from_apart given (sized size k) free.apart in
              let f = pick size (λ b. is_apart given b ≡ false) pool k free.in_pool h in
              let no : true ≡ false = sym t ∙ f in
              cc)),
          (λ _. refl),
        );
      }
  from_first (Some b) h =
      let free : IsFree pool given b =
      record {
        in_pool = h.1.1;
        apart = apart_from_test given b h.0;
      } in
      record {
        due = record {
          free = free;
          of_size = h.1.0;
          least = of_every
              (λ other. IsFree pool given other → first_address b ≤ first_address other) size
              (λ k other.
              pick size (λ y. is_apart given y ≡ true → first_address b ≤ first_address y) pool k
              other.in_pool h.2 (test_from_apart given (sized size k) other.apart));
        };
        none = ((λ n. absurd (cc)), (λ n. absurd (n b h.1.0 free)));
      }

  pub block_due-IsAnswer : IsStrictlyIncreasing pool
      → IsAnswer pool given size (block_due pool given size)
  unfolding block_due
  block_due-IsAnswer up =
      from_first (block_due pool given size)
      (first first_address (is_apart given) (IsOfPool size pool) (flat_map (blocks_in size) pool)
      (ascends-all size pool (rises size pool (ascends_far pool up))) (of_pool size pool))

  same_first : (s : Size) (k l : ℕ) → k * address_count s ≤ l * address_count s
      → l * address_count s ≤ k * address_count s → k ≡ l
  same_first MaL k l h g = omega arith
  same_first s k l h g = omega arith

  pub IsDue-unique : (a b : SizedPrefix) → IsDue pool given size a → IsDue pool given size b → a ≡ b
  IsDue-unique a b due_a due_b =
      of_every (λ x. IsDue pool given size x → x ≡ b) size
      (λ k due_k. of_every (λ y. IsDue pool given size y → sized size k ≡ y) size
      (λ l due_l. ap (sized size)
      (same_first size k l (due_k.least (sized size l) refl due_l.free)
      (due_l.least (sized size k) refl due_k.free))) b due_b.of_size due_b) a due_a.of_size
      due_a

  pub IsAnswer-unique : (o r : Option SizedPrefix) → IsAnswer pool given size o
      → IsAnswer pool given size r → o ≡ r
  IsAnswer-unique None None h g = refl
  IsAnswer-unique None (Some b) h g = absurd (h.none.0 refl b g.due.of_size g.due.free)
  IsAnswer-unique (Some a) None h g = absurd (g.none.0 refl a h.due.of_size h.due.free)
  IsAnswer-unique (Some a) (Some b) h g = ap (λ x. Some x) (IsDue-unique a b h.due g.due)
