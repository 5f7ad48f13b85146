-- Lists whose items are seen in another way.
use Rattle.std.proofs.Common.{◌≡◌, Bool, true, false, List, [], ◌∷◌, ◌++◌, filter, if◌then◌else◌, map, reverse, refl, sym, ap, ◌∙◌}
use Rattle.std.proofs.lemmas.List.{map-append, reverse-append}

pub map-reverse : {X Y : Type 0} (f : X → Y) (xs : List X) → map f (reverse xs) ≡ reverse (map f xs)
map-reverse f [] = refl
map-reverse f (x ∷ xs) =
    ap (map f) (reverse-append (x ∷ []) xs) ∙ map-append f (reverse xs) (x ∷ [])
    ∙ ap (λ ys. ys ++ f x ∷ []) (map-reverse f xs) ∙ sym (reverse-append (f x ∷ []) (map f xs))

-- those items that pass a test when they are seen so
map-filter : {X Y : Type 0} (f : X → Y) (x : X) (passed : List X) (rest : List Y) → map f passed ≡ rest
    → (b : Bool) → map f (if b then x ∷ passed else passed) ≡ (if b then f x ∷ rest else rest)
map-filter f x passed rest same true = ap (λ ys. f x ∷ ys) same
map-filter f x passed rest same false = same

pub map-filter_by : {X Y : Type 0} (f : X → Y) (test : Y → Bool) (xs : List X)
    → map f (filter (λ x. test (f x)) xs) ≡ filter test (map f xs)
map-filter_by f test [] = refl
map-filter_by f test (x ∷ xs) =
    map-filter f x (filter (λ y. test (f y)) xs) (filter test (map f xs)) (map-filter_by f test xs)
    (test (f x))
