-- Slices of texts, as a loop takes one after the other from the front.
use Rattle.std.proofs.Common.{◌≡◌, ◌<◌, ◌≤◌, ◌-◌, ℕ, List, [], ◌∷◌, length, map, take, drop, get_or}
use Rattle.std.proofs.Common.{Bor, refl, ap, sym, arith}
use Rattle.std.proofs.lemmas.List.{take_all}

abbrev pub said : List (Bor (List ℕ)) → List (List ℕ)
said = map (λ text. text.now)

abbrev pub blank : Bor (List ℕ)
blank = record { ref_ptr = (0, 0); now = [] }

abbrev pub rest : List (Bor (List ℕ)) → List (Bor (List ℕ))
rest texts = take (length texts - 1) (drop 1 texts)

pub first_and_rest : (texts : List (Bor (List ℕ))) → 1 ≤ length texts
    → said texts ≡ (get_or texts 0 blank).now ∷ said (rest texts)
first_and_rest [] some = absurd (omega (arith, some))
first_and_rest (text ∷ texts) some =
    let whole : take (length (text ∷ texts) - 1) texts ≡ texts = take_all _ texts (omega arith) in
    ap (λ more. text.now ∷ said more) (sym whole)

pub none_left : (texts : List (Bor (List ℕ))) → length texts < 1 → said texts ≡ []
none_left [] none = refl
none_left (text ∷ texts) none = absurd (omega (arith, none))
