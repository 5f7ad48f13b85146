-- Each tag of markup is closed.
use Rattle.std.proofs.Common.{◌≡◌, ℕ, true, List, [], ◌∷◌, refl, ap, ◌∙◌}
use Rattle.std.specs.Str.{bytes_eq}
use Rattle.std.proofs.lemmas.Slice.Eq.{bytes_eq-Decides}
use Rattle.reg_pages.specs.Markup.{Markup, nothing, text, element, void, beside, opening_then, markup_then}
use Rattle.reg_pages.specs.Nesting.{Token, closes, tokens_then, written_then, closed_after}

-- the tokens of markup are written as its bytes
pub written : (m : Markup) (more : List Token) (rest : List ℕ)
    → written_then (tokens_then m more) rest ≡ markup_then m (written_then more rest)
written nothing more rest = refl
written (text t) more rest = refl
written (element tag attributes inside) more rest =
    ap (opening_then tag attributes) (written inside (closes tag ∷ more) rest)
written (void tag attributes) more rest = refl
written (beside a b) more rest =
    written a (tokens_then b more) rest ∙ ap (markup_then a) (written b more rest)

same_bytes : (s : List ℕ) → bytes_eq s s ≡ true
same_bytes s = (bytes_eq-Decides s s).1 refl

-- markup leaves the tags unclosed that were unclosed before it
pub closed : (m : Markup) (unclosed : List (List ℕ)) (more : List Token)
    → closed_after unclosed (tokens_then m more) ≡ closed_after unclosed more
closed nothing unclosed more = refl
closed (text t) [] more = refl
closed (text t) (tag ∷ unclosed) more = refl
closed (element tag attributes inside) [] more =
    closed inside (tag ∷ []) (closes tag ∷ more) ∙ rw (same_bytes tag) refl
closed (element tag attributes inside) (last ∷ unclosed) more =
    closed inside (tag ∷ last ∷ unclosed) (closes tag ∷ more) ∙ rw (same_bytes tag) refl
closed (void tag attributes) [] more = refl
closed (void tag attributes) (last ∷ unclosed) more = refl
closed (beside a b) unclosed more =
    closed a unclosed (tokens_then b more) ∙ closed b unclosed more

pub ruleset nested = (written, closed)
