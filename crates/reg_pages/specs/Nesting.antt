-- The tags of a page: each is closed, the last that was opened first.
use Rattle.std.specs.Prelude.{◌≡◌, ℕ, Bool, true, false, List, [], ◌∷◌, ◌++◌, if◌then◌else◌}
use Rattle.std.specs.Str.{bytes_eq}
use Rattle.reg_pages.specs.Escape.{escaped}
use Rattle.reg_pages.specs.Markup.{Attribute, Markup, nothing, text, element, void, beside, opening_then, closing_then, markup_then}

pub data Token : Type 0 where
  opens : List ℕ → List Attribute → Token
  closes : List ℕ → Token
  stands : List ℕ → List Attribute → Token
  says : List ℕ → Token

-- the tokens of markup, and then these
abbrev pub tokens_then : Markup → List Token → List Token
tokens_then nothing rest = rest
tokens_then (text t) rest = says t ∷ rest
tokens_then (element tag attributes inside) rest =
    opens tag attributes ∷ tokens_then inside (closes tag ∷ rest)
tokens_then (void tag attributes) rest = stands tag attributes ∷ rest
tokens_then (beside a b) rest = tokens_then a (tokens_then b rest)

-- the bytes of tokens, and then these
abbrev pub written_then : List Token → List ℕ → List ℕ
written_then [] rest = rest
written_then (opens tag attributes ∷ more) rest =
    opening_then tag attributes (written_then more rest)
written_then (closes tag ∷ more) rest = closing_then tag (written_then more rest)
written_then (stands tag attributes ∷ more) rest =
    opening_then tag attributes (written_then more rest)
written_then (says t ∷ more) rest = escaped t ++ written_then more rest

-- Whether each tag is closed that is open, the innermost first, and after these tokens too. A tag that
-- stands alone is never open.
abbrev pub closed_after : List (List ℕ) → List Token → Bool
closed_after [] [] = true
closed_after (tag ∷ unclosed) [] = false
closed_after unclosed (opens tag attributes ∷ more) = closed_after (tag ∷ unclosed) more
closed_after [] (closes tag ∷ more) = false
closed_after (last ∷ unclosed) (closes tag ∷ more) =
    if bytes_eq last tag then closed_after unclosed more else false
closed_after unclosed (stands tag attributes ∷ more) = closed_after unclosed more
closed_after unclosed (says t ∷ more) = closed_after unclosed more

-- The bytes of markup are those of its tokens, and each tag that they open they close in turn.
pub record IsNested (m : Markup) : Type 0 where
  pub written : (rest : List ℕ) → markup_then m rest ≡ written_then (tokens_then m []) rest
  pub closed : closed_after [] (tokens_then m []) ≡ true

abbrev pub TagsAreClosed : Type 0
TagsAreClosed = (m : Markup) → IsNested m
