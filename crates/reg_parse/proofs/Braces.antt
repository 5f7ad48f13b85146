-- A segment of a pattern stands for the name between its braces.
use Rattle.std.proofs.Common.{◌≡◌, ◌≢◌, ℕ, List, [], ◌∷◌, ◌++◌, false, ap, ◌∙◌, sym, inl, inr}
use Rattle.std.specs.Bool.{one_answer}
use Rattle.std.specs.Str.{bytes_eq}
use Rattle.std.proofs.lemmas.Bool.{cases_Bool}
use Rattle.std.proofs.lemmas.List.{append_cancel_right}
use Rattle.std.proofs.lemmas.Slice.Eq.{bytes_eq-Decides}

abbrev pub braced : List ℕ → List ℕ
braced name = 123 ∷ (name ++ 125 ∷ [])

open_braces : (name item : List ℕ) → braced name ≡ braced item → name ≡ item
open_braces name item e = append_cancel_right name item (125 ∷ []) (cc)

pub names_item : (segment rest name item : List ℕ) → segment ≡ 123 ∷ rest → rest ≡ name ++ 125 ∷ []
    → bytes_eq name item ≡ bytes_eq segment (braced item)
names_item segment rest name item s r =
    let whole : segment ≡ braced name = s ∙ ap (λ t. 123 ∷ t) r in
    one_answer {P = name ≡ item} (bytes_eq name item) (bytes_eq segment (braced item))
    (bytes_eq-Decides name item) (
      λ same. open_braces name item (sym whole ∙ (bytes_eq-Decides segment (braced item)).0 same),
      λ e. (bytes_eq-Decides segment (braced item)).1 (whole ∙ ap braced e),
    )

pub names_nothing : (segment item : List ℕ) → ((name : List ℕ) → segment ≢ braced name)
    → false ≡ bytes_eq segment (braced item)
names_nothing segment item other = elim (cases_Bool (bytes_eq segment (braced item))) [
  | inl is_braced ↦ absurd (other item ((bytes_eq-Decides segment (braced item)).0 is_braced))
  | inr is_other ↦ sym is_other
]

pub no_end : (segment rest : List ℕ) → segment ≡ 123 ∷ rest
    → ((name : List ℕ) → rest ≢ name ++ 125 ∷ []) → (name : List ℕ) → segment ≢ braced name
no_end segment rest s other name e = other name (cc)

pub no_brace : (segment : List ℕ) → ((rest : List ℕ) → segment ≢ 123 ∷ rest) → (name : List ℕ)
    → segment ≢ braced name
no_brace segment other name e = other (name ++ 125 ∷ []) e
