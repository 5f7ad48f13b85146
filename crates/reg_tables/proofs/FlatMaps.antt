-- Lists that are listed one after another.
use Rattle.std.proofs.Common.{◌≡◌, Bool, true, false, ◌&&◌, cond, List, [], ◌∷◌, ◌++◌, map, filter}
use Rattle.std.proofs.Common.{refl, ap, ap₂, ◌∙◌}
use Rattle.std.specs.List.{flat_map}
use Rattle.std.proofs.lemmas.List.{map-append}

-- what is listed, each made into another
pub map-flat_map : {A B C : Type 0} (f : B → C) (g : A → List B) (xs : List A)
    → map f (flat_map g xs) ≡ flat_map (λ x. map f (g x)) xs
map-flat_map f g [] = refl
map-flat_map f g (x ∷ xs) =
    map-append f (g x) (flat_map g xs) ∙ ap (λ more. map f (g x) ++ more) (map-flat_map f g xs)

-- lists of those that pass, and nothing of the others
pub of_passing : {A B : Type 0} (p : A → Bool) (g : A → List B) (xs : List A)
    → flat_map (λ x. cond (p x) (g x) []) xs ≡ flat_map g (filter p xs)
of_passing p g [] = refl
of_passing p g (x ∷ xs) = elim (p x) as (λ b.
    cond b (g x) [] ++ flat_map (λ x. cond (p x) (g x) []) xs
    ≡ flat_map g (cond b (x ∷ filter p xs) (filter p xs))) [
      | true ↦ ap (λ more. g x ++ more) (of_passing p g xs)
      | false ↦ of_passing p g xs
    ]

-- one test for all of a list, of which each is made into another
pub mapped_where : {A B C : Type 0} (b : Bool) (f : B → C) (g : A → B) (xs : List A)
    → map f (flat_map (λ x. cond b (g x ∷ []) []) xs) ≡ cond b (map (λ x. f (g x)) xs) []
mapped_where true f g [] = refl
mapped_where true f g (x ∷ xs) = ap (λ more. f (g x) ∷ more) (mapped_where true f g xs)
mapped_where false f g [] = refl
mapped_where false f g (x ∷ xs) = mapped_where false f g xs

-- a test of two parts, of which one is the same for all of a list
pub apart : {A B : Type 0} (b : Bool) (p : A → Bool) (g : A → List B) (xs : List A)
    → flat_map (λ x. cond (p x && b) (g x) []) xs
    ≡ cond b (flat_map (λ x. cond (p x) (g x) []) xs) []
apart true p g [] = refl
apart false p g [] = refl
apart true p g (x ∷ xs) = ap₂ (λ t more. cond t (g x) [] ++ more) (both (p x)) (apart true p g xs)
  where
    both : (t : Bool) → (t && true) ≡ t
    both true = refl
    both false = refl
apart false p g (x ∷ xs) =
    ap₂ (λ t more. cond t (g x) [] ++ more) (none (p x)) (apart false p g xs)
  where
    none : (t : Bool) → (t && false) ≡ false
    none true = refl
    none false = refl
