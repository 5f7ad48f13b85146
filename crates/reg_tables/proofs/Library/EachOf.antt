-- What is so of each of a list, by what else is so of each.
use Rattle.std.proofs.Common.{◌≡◌, Bool, true, List, [], ◌∷◌, ◌++◌, drop}
use Rattle.std.proofs.lemmas.Bool.{and_parts}
use Rattle.std.specs.List.{AllByRecursion, list_all}

module _ {X : Type 0} where
  -- what follows for each of them
  pub all_then : {P Q : X → Type 0} (xs : List X) → AllByRecursion P xs → ((x : X) → P x → Q x)
      → AllByRecursion Q xs
  all_then [] all f = tt
  all_then (x ∷ xs) all f = (f x all.0, all_then xs all.1 f)

  -- and where two facts are so
  pub all_both : {P Q R : X → Type 0} (xs : List X) → AllByRecursion P xs → AllByRecursion Q xs
      → ((x : X) → P x → Q x → R x) → AllByRecursion R xs
  all_both [] all also f = tt
  all_both (x ∷ xs) all also f = (f x all.0 also.0, all_both xs all.1 also.1 f)

  -- each passes the test
  pub all_tested : (p : X → Bool) (xs : List X) → list_all p xs ≡ true
      → AllByRecursion (λ x. p x ≡ true) xs
  all_tested p [] e = tt
  all_tested p (x ∷ xs) e =
      let both = and_parts (p x) (list_all p xs) e in
      (both.0, all_tested p xs both.1)

  -- what follows of each that passes it
  pub all_if : (p : X → Bool) (Q : X → Type 0) (xs : List X) → list_all p xs ≡ true
      → ((x : X) → p x ≡ true → Q x) → AllByRecursion Q xs
  all_if p Q xs e f = all_then xs (all_tested p xs e) f

  -- ---- Lists that are joined

  pub all_front : (P : X → Type 0) (front back : List X) → AllByRecursion P (front ++ back)
      → AllByRecursion P front
  all_front P [] back all = tt
  all_front P (x ∷ front) back all = (all.0, all_front P front back all.1)

  pub all_back : (P : X → Type 0) (front back : List X) → AllByRecursion P (front ++ back)
      → AllByRecursion P back
  all_back P [] back all = all
  all_back P (x ∷ front) back all = all_back P front back all.1

  pub all_join : (P : X → Type 0) (front back : List X) → AllByRecursion P front
      → AllByRecursion P back → AllByRecursion P (front ++ back)
  all_join P [] back a b = b
  all_join P (x ∷ front) back a b = (a.0, all_join P front back a.1 b)

  pub all_rest : (P : X → Type 0) (xs : List X) → AllByRecursion P xs → AllByRecursion P (drop 1 xs)
  all_rest P [] all = tt
  all_rest P (x ∷ xs) all = all.1
