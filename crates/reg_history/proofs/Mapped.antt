-- Lists that grow by what is made of items in turn.
use Rattle.std.proofs.Common.{◌≡◌, ℕ, ◌+◌, ◌<◌, List, [], ◌∷◌, ◌++◌, length, map, take, get_or, refl, sym, ap, ◌∙◌, append_assoc}
use Rattle.reg_print.proofs.PrintedTokens.{one_more}

map-more : {X Y : Type 0} (f : X → Y) (xs : List X) (x : X)
    → map f xs ++ f x ∷ [] ≡ map f (xs ++ x ∷ [])
map-more f [] x = refl
map-more f (y ∷ xs) x = ap (λ ys. f y ∷ ys) (map-more f xs x)

pub mapped_more : {X Y : Type 0} (f : X → Y) (old now next : List Y) (xs : List X) (i : ℕ) (x : X)
    → i < length xs → x ≡ get_or xs i x → now ≡ old ++ map f (take i xs) → next ≡ now ++ f x ∷ []
    → next ≡ old ++ map f (take (i + 1) xs)
mapped_more f old now next xs i x h is so e =
    e ∙ ap (λ ys. ys ++ f x ∷ []) so ∙ append_assoc old (map f (take i xs)) (f x ∷ [])
    ∙ ap (λ ys. old ++ ys) (map-more f (take i xs) x ∙ ap (map f) (sym (one_more xs i x h is)))
