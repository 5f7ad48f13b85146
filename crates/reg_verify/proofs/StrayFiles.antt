-- Which files are of registries that a history has.
use Rattle.std.proofs.Common.{◌≡◌, ℕ, ◌<◌, ◌+◌, Bool, true, false, true≢false, List, [], ◌∷◌, ◌++◌, length, map, take, get_or, Option, Some, None, refl, sym, ap, ◌∙◌, subst, not, inl, inr, arith, length-append, ◌≤◌, String, string_bytes, option_map}
use Rattle.std.specs.declared.alloc.Global.{Global}
use Rattle.std.specs.Prelude.{◌≢◌, ◌↔◌, All, Contains, IsSome, IsTrue, MatchBool, MatchOption, codes}
use Rattle.std.specs.Str.Pattern.{FindsTextSuffix, StripsSuffix}
use denote.Ref.{Bor}
use Rattle.std.proofs.lemmas.List.{append_cancel_right, get_or-append-add, get_or-map, length-map, take_all}
use Rattle.std.specs.BTreeMap.{BTreeMap}
use Rattle.std.specs.BTreeMap.Range.{IsLeBy}
use Rattle.std.specs.Ordering.{is_gt, nat_cmp, ordering_reverse, ordering_then}
use Rattle.std.specs.declared.cmp.Ordering.{Ordering}
use Rattle.std.specs.declared.cmp.Ordering.TheVariants.{Less, Equal, Greater}
use Rattle.std.proofs.lemmas.List.Elements.{All-more, All-map, All-weaker, Contains-get_or}
use Rattle.reg_maps.specs.Maps.{text_cmp}
use Rattle.reg_maps.proofs.MapLaws.{text_keys}
use Rattle.reg_maps.proofs.Orderings.{self_tie}
use Rattle.reg_changes.specs.Replay.{Said}
use Rattle.reg_changes.specs.Said.{said_by}
use Rattle.reg_changes.specs.Subjects.{subject_cmp}
use Rattle.reg_changes.specs.Words.{class_place}
use Rattle.reg_changes.specs.declared.change.Class.{Class}
use Rattle.reg_changes.specs.declared.change.Class.TheVariants as class
use Rattle.reg_changes.specs.declared.change.Details.{Details}
use Rattle.reg_changes.specs.declared.change.Subject.{Subject}
use Rattle.reg_verify.specs.Strays.{HasNoStray, HasRegistry, HasStray, IsFirstFrom, IsKnown, IsRegistryOf, IsRegistryRange, IsStray, IsStrayOf, TellsStray, range_at}

-- ---- The first range of a registry

-- the least subject of a registry is not behind any range of it
empty_first : (v : List ℕ) → is_gt (text_cmp [] v) ≡ false
empty_first [] = refl
empty_first (x ∷ xs) = refl

least_first : (name v : List ℕ) → IsLeBy subject_cmp (range_at name []) (range_at name v)
least_first name v =
    subst (λ o. is_gt (ordering_then (ordering_then o (nat_cmp 0 0)) (text_cmp [] v)) ≡ false)
    (sym (self_tie (text_cmp name name) (text_keys.total.antisymm name name))) (empty_first v)

-- two texts of which neither is behind the other tie
neither : (o p a b x y : Ordering) → o ≡ ordering_reverse p
    → is_gt (ordering_then (ordering_then o a) x) ≡ false
    → is_gt (ordering_then (ordering_then p b) y) ≡ false → p ≡ Equal
neither o Less a b x y e h k =
    absurd (true≢false (subst (λ o. is_gt (ordering_then (ordering_then o a) x) ≡ false) e h))
neither o Equal a b x y e h k = refl
neither o Greater a b x y e h k = absurd (true≢false k)

-- no class is before that of ranges
range_first : (kind : Class) (y : Ordering)
    → is_gt (ordering_then (ordering_then Equal (nat_cmp (class_place kind) 0)) y) ≡ false
    → kind ≡ class.Range
range_first class.Range y h = refl
range_first class.Entry y h = absurd (true≢false h)
range_first class.Prefix y h = absurd (true≢false h)
range_first class.Block y h = absurd (true≢false h)

-- what is between the least subject of a registry and a range of it is a range of it
between : (name v : List ℕ) (s : Subject) → IsLeBy subject_cmp (range_at name []) s
    → IsLeBy subject_cmp s (range_at name v) → IsRegistryRange name s
between name v s above below =
    let tie : text_cmp s.registry name ≡ Equal = neither (text_cmp name s.registry) (text_cmp s.registry name)
    (nat_cmp 0 (class_place s.class)) (nat_cmp (class_place s.class) 0)
    (text_cmp [] s.value) (text_cmp s.value v) (text_keys.total.antisymm name s.registry) above below in (
      range_first s.class (text_cmp s.value v)
          (subst (λ p. is_gt (ordering_then (ordering_then p (nat_cmp (class_place s.class) 0)) (text_cmp s.value v)) ≡ false) tie below),
      text_keys.exact s.registry name tie,
    )

-- a range of a registry is one that the history has
pub has_range : (map : BTreeMap Subject Details) (name : List ℕ) (s : Subject)
    → IsSome (said_by map s) → IsRegistryRange name s → HasRegistry (said_by map) name
has_range map name s some is =
    let same : s ≡ range_at name s.value =
    λ i. record { registry = is.1 i; class = is.0 i; value = s.value } in
    (s.value, subst (λ t. IsSome (said_by map t)) same some)

-- a history has a registry just where the first subject from its least on is a range of it
pub has_by_first : (map : BTreeMap Subject Details) (name : List ℕ) (least first : Subject) (r : Bool)
    → least ≡ range_at name [] → IsFirstFrom map least (Some first)
    → IsTrue r ↔ IsRegistryRange name first → IsTrue r ↔ HasRegistry (said_by map) name
has_by_first map name least first r same begins is =
    let from : IsFirstFrom map (range_at name []) (Some first) =
    subst (λ s. IsFirstFrom map s (Some first)) same begins in (
      λ yes. has_range map name first from.0 (is.0 yes),
      λ has. is.1 (between name has.0 first from.1
          (from.2 (range_at name has.0) has.1 (least_first name has.0))),
    )

-- it has none where there is no such subject
pub has_not : (map : BTreeMap Subject Details) (name : List ℕ) (least : Subject)
    → least ≡ range_at name [] → IsFirstFrom map least None
    → IsTrue false ↔ HasRegistry (said_by map) name
has_not map name least same begins =
    let from : IsFirstFrom map (range_at name []) None =
    subst (λ s. IsFirstFrom map s None) same begins in (
      λ no. absurd (true≢false (sym no)),
      λ has. absurd (from (range_at name has.0) has.1 (least_first name has.0)),
    )

-- ---- One file

-- what comes before an ending
pub ending_stripped : (s n : List ℕ) (r : Option (Bor (List ℕ)))
    → MatchOption r (FindsTextSuffix n s None) (λ x. StripsSuffix (FindsTextSuffix n) s x.now)
    → MatchOption r ((front : List ℕ) → s ≢ front ++ n) (λ x. s ≡ x.now ++ n)
ending_stripped s n None h = h
ending_stripped s n (Some x) h = h.1.1 ∙ ap (λ t. t ++ n) (sym h.2)

-- no text has both endings
one_ending : (xs ys : List ℕ) → xs ++ codes ".json" ≡ ys ++ codes ".csv" → ⊥
one_ending xs ys e =
    let long : length xs + 5 ≡ length ys + 4 =
    sym (length-append xs (codes ".json")) ∙ ap length e ∙ length-append ys (codes ".csv") in
    let place : length xs + 4 ≡ length ys + 3 = omega (arith, long) in
    let last : 110 ≡ 118 =
    sym (get_or-append-add xs (codes ".json") 4 0)
    ∙ ap (λ t. get_or t (length xs + 4) 0) e ∙ ap (λ i. get_or (ys ++ codes ".csv") i 0) place
    ∙ get_or-append-add ys (codes ".csv") 3 0 in
    omega (arith, last)

-- the registry of a file with the one ending, or the other
pub of_tree : (file name : List ℕ) → file ≡ name ++ codes ".json" → IsRegistryOf file (Some name)
of_tree file name e = (
  inl e,
  λ other of. elim of [
    | inl k ↦ append_cancel_right other name (codes ".json") (sym k ∙ e)
    | inr k ↦ absurd (one_ending name other (sym e ∙ k))
  ],
)

pub of_listing : (file name : List ℕ) → ((front : List ℕ) → file ≢ front ++ codes ".json")
    → file ≡ name ++ codes ".csv" → IsRegistryOf file (Some name)
of_listing file name other_ending e = (
  inr e,
  λ other of. elim of [
    | inl k ↦ absurd (other_ending other k)
    | inr k ↦ append_cancel_right other name (codes ".csv") (sym k ∙ e)
  ],
)

pub of_none : (file : List ℕ) → ((front : List ℕ) → file ≢ front ++ codes ".json")
    → ((front : List ℕ) → file ≢ front ++ codes ".csv") → IsRegistryOf file None
of_none file no_tree no_listing name of =
    elim of [ inl k ↦ no_tree name k | inr k ↦ no_listing name k ]

-- a file of no registry is known
pub unowned : (said : Said) (file : List ℕ) → IsRegistryOf file None → IsKnown said file
unowned said file none name of = absurd (none name of)

-- a file is stray if the history has not its registry, and known if it has
pub judged : (said : Said) (file name : List ℕ) (has : Bool) → IsRegistryOf file (Some name)
    → IsTrue has ↔ HasRegistry said name
    → MatchBool (not has) (IsStray said file) (IsKnown said file)
judged said file name true of is =
    λ other named. subst (HasRegistry said) (sym (of.1 other named)) (is.0 refl)
judged said file name false of is =
    (name, of.0, λ has. true≢false (sym (is.1 has)))

-- by the answer
pub if_stray : (said : Said) (file : List ℕ) (b : Bool) → b ≡ true
    → MatchBool b (IsStray said file) (IsKnown said file) → IsStray said file
if_stray said file true is h = h
if_stray said file false is h = absurd (true≢false (sym is))

pub if_known : (said : Said) (file : List ℕ) (b : Bool) → b ≡ false
    → MatchBool b (IsStray said file) (IsKnown said file) → IsKnown said file
if_known said file true is h = absurd (true≢false is)
if_known said file false is h = h

-- ---- All files

module _ {X : Type 0} (f : X → List ℕ) (said : Said) where
  -- one file more is known
  pub known_more : (xs : List X) (i : ℕ) (x : X) → i < length xs → x ≡ get_or xs i x
      → All (λ y. IsKnown said (f y)) (take i xs) → IsKnown said (f x)
      → All (λ y. IsKnown said (f y)) (take (i + 1) xs)
  known_more xs i x h is all known =
      All-more (λ y. IsKnown said (f y)) xs i x h all (subst (λ y. IsKnown said (f y)) is known)

  -- one is stray
  pub stray_among : (xs : List X) (i : ℕ) (x : X) (file : List ℕ) → i < length xs
      → x ≡ get_or xs i x → file ≡ f x → IsStray said (f x)
      → IsStrayOf said (map f xs) (Some file)
  stray_among xs i x file h is same stray = (
    subst (Contains (map f xs))
        (get_or-map f xs i x (f x) h ∙ ap f (sym is) ∙ sym same)
        (Contains-get_or (map f xs) i (f x) (subst (λ n. i < n) (sym (length-map xs f)) h)),
    subst (IsStray said) (sym same) stray,
  )

  -- none is
  pub none_among : (xs : List X) (i : ℕ) → length xs ≤ i
      → All (λ y. IsKnown said (f y)) (take i xs) → IsStrayOf said (map f xs) None
  none_among xs i h all =
      All-map (IsKnown said) f xs (subst (All (λ y. IsKnown said (f y))) (take_all i xs h) all)

-- ---- As the records say

-- where the same is said of each subject, the same registries are there
pub has_said : (a b : Said) → ((s : Subject) → a s ≡ b s) → (name : List ℕ) → HasRegistry a name
    → HasRegistry b name
has_said a b same name has = (has.0, subst IsSome (same (range_at name has.0)) has.1)

module _ (Names : List (List ℕ) → Type 0) (a b : Said) (same : (s : Subject) → a s ≡ b s) where
  pub none_said : HasNoStray Names a → HasNoStray Names b
  none_said none = (
    none.0,
    none.1,
    All-weaker (IsKnown a) (IsKnown b)
        (λ file known name of. has_said a b same name (known name of)) none.0 none.2,
  )

  pub stray_said : (file : List ℕ) → HasStray Names a file → HasStray Names b file
  stray_said file has = (
    has.0,
    has.1,
    has.2,
    (
      has.3.0,
      has.3.1,
      λ is. has.3.2 (has_said b a (λ s. sym (same s)) has.3.0 is),
    ),
  )

-- what was told of a stray file, by whether there is one
module _ (Names : List (List ℕ) → Type 0) (said : Said) where
  pub no_stray : (stray : Option (String Global)) → stray ≡ None
      → TellsStray Names said (option_map string_bytes stray) → HasNoStray Names said
  no_stray stray is tells =
      subst (λ s. TellsStray Names said (option_map string_bytes s)) is tells

  pub some_stray : (stray : Option (String Global)) (file : String Global) → stray ≡ Some file
      → TellsStray Names said (option_map string_bytes stray)
      → HasStray Names said (string_bytes file)
  some_stray stray file is tells =
      subst (λ s. TellsStray Names said (option_map string_bytes s)) is tells

  -- of the files that the folder has
  pub told_stray : (files : List (List ℕ)) (stray : Option (List ℕ)) → Names files
      → IsStrayOf said files stray → TellsStray Names said stray
  told_stray files None names all = (files, names, all)
  told_stray files (Some file) names is = (files, names, is.0, is.1)
