-- Lists that grow by what is made of items in turn.
use Rattle.std.proofs.Common.{◌≡◌, ℕ, ◌+◌, ◌<◌, List, [], ◌∷◌, ◌++◌, length, take, get_or, filter_map, Option, Some, None, refl, sym, ap, ◌∙◌, append_assoc, append-nil}
use Rattle.std.specs.Option.{option_to_list}
use Rattle.std.specs.List.{flat_map}
use Rattle.std.proofs.lemmas.Grind.{flat_map-append}
use Rattle.std.proofs.lemmas.List.Elements.{filter_map-append}
use Rattle.reg_print.proofs.PrintedTokens.{one_more}

single : {X Y : Type 0} (f : X → Option Y) (x : X) (o : Option Y) → f x ≡ o
    → filter_map f (x ∷ []) ≡ option_to_list o
single f x None e = rw e refl
single f x (Some y) e = rw e refl

-- what is made of the first items, where something is made of each, and of one more
pub filtered_more : {X Y : Type 0} (f : X → Option Y) (old now next : List Y) (xs : List X) (i : ℕ)
    (x : X) → i < length xs → x ≡ get_or xs i x → now ≡ old ++ filter_map f (take i xs)
    → next ≡ now ++ option_to_list (f x) → next ≡ old ++ filter_map f (take (i + 1) xs)
filtered_more f old now next xs i x h is so e =
    e ∙ ap (λ ys. ys ++ option_to_list (f x)) so
    ∙ append_assoc old (filter_map f (take i xs)) (option_to_list (f x))
    ∙ ap (λ ys. old ++ ys)
    (ap (λ zs. filter_map f (take i xs) ++ zs) (sym (single f x (f x) refl))
    ∙ sym (filter_map-append f (take i xs) (x ∷ []))
    ∙ ap (filter_map f) (sym (one_more xs i x h is)))

-- all that is made of the first items, and of one more
pub joined_more : {X Y : Type 0} (f : X → List Y) (xs : List X) (i : ℕ) (x : X) → i < length xs
    → x ≡ get_or xs i x → flat_map f (take i xs) ++ f x ≡ flat_map f (take (i + 1) xs)
joined_more f xs i x h is =
    ap (λ ys. flat_map f (take i xs) ++ ys) (sym (append-nil (f x)))
    ∙ sym (ap (flat_map f) (one_more xs i x h is) ∙ flat_map-append f (take i xs) (x ∷ []))
