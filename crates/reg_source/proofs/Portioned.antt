-- Bytes that are compared with those that a printer gives, a portion at a time.
use Rattle.std.proofs.Common.{◌≡◌, ◌==◌, ℕ, Bool, true, false, List, [], ◌∷◌, ◌++◌, length, refl, sym, ap, ◌∙◌, append_assoc, arith}
use Rattle.std.specs.Prelude.{IsTrue, ◌↔◌, ◌≢◌}
use Rattle.reg_pages.specs.Portions.{GivesIfMore}
use Rattle.std.proofs.lemmas.Bool.{eqb-true}
use Rattle.std.proofs.lemmas.List.{append_cancel_left}

-- the bytes that were given are those with which the text begins
pub record IsSameFront (bytes rest given left : List ℕ) : Type 0 where
  pub front : List ℕ
  pub text : bytes ≡ front ++ rest
  pub printed : given ≡ front ++ left

pub same_front-none : (bytes given : List ℕ) → IsSameFront bytes bytes given given
same_front-none bytes given = record { front = []; text = refl; printed = refl }

pub same_front-more : (bytes rest more given left left' portion : List ℕ)
    → IsSameFront bytes rest given left → rest ≡ portion ++ more → portion ++ left' ≡ left
    → IsSameFront bytes more given left'
same_front-more bytes rest more given left left' portion so here next = record {
  front = so.front ++ portion;
  text = so.text ∙ ap (λ t. so.front ++ t) here ∙ sym (append_assoc so.front portion more);
  printed =
      so.printed ∙ ap (λ t. so.front ++ t) (sym next)
      ∙ sym (append_assoc so.front portion left');
}

-- the text goes on otherwise
pub same_front-other : (bytes rest given left left' portion : List ℕ)
    → IsSameFront bytes rest given left → ((more : List ℕ) → rest ≢ portion ++ more)
    → portion ++ left' ≡ left → bytes ≡ given → ⊥
same_front-other bytes rest given left left' portion so other next same =
    other left'
    (append_cancel_left so.front rest (portion ++ left')
    (sym so.text ∙ same ∙ so.printed ∙ ap (λ t. so.front ++ t) (sym next)))

-- nothing more is given
pub same_front-end : (bytes rest given left : List ℕ) (r : Bool)
    → IsSameFront bytes rest given left → left ≡ [] → r ≡ (length rest == 0)
    → IsTrue r ↔ (bytes ≡ given)
same_front-end bytes [] given left r so none e = (
  λ yes. so.text ∙ ap (λ t. so.front ++ t) (sym none) ∙ sym so.printed,
  λ same. e,
)
same_front-end bytes (x ∷ xs) given left r so none e = (
  λ yes. absurd (omega (arith, eqb-true (length (x ∷ xs)) 0 (sym e ∙ yes))),
  λ same.
      let no : x ∷ xs ≡ [] = append_cancel_left so.front (x ∷ xs) []
      (sym so.text ∙ same ∙ so.printed ∙ ap (λ t. so.front ++ t) none) in
      absurd (cc),
)

-- what is given comes next, or nothing does
pub gives_next : (more : Bool) (items left left' : List ℕ) → more ≡ true
    → GivesIfMore more [] items left left' → left ≡ items ++ left'
gives_next true items left left' is gives = sym gives.whole
gives_next false items left left' is gives = absurd (let no : ⊥ = cc in no)

pub gives_none : (more : Bool) (items left left' : List ℕ) → more ≡ false
    → GivesIfMore more [] items left left' → left ≡ []
gives_none false items left left' is gives = gives.none
gives_none true items left left' is gives = absurd (let no : ⊥ = cc in no)
