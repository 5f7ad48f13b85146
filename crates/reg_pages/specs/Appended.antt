-- What is appended to a page.
use Rattle.std.specs.Prelude.{◌≡◌, ℕ, List, ◌++◌}
use Rattle.reg_pages.specs.Markup.{Markup, markup_then}

-- Some bytes came to what stood before, and nothing else. `piece` has them, and after them the rest.
pub record Appended (old new : List ℕ) (piece : List ℕ → List ℕ) : Type 0 where
  pub all : (rest : List ℕ) → new ++ rest ≡ old ++ piece rest

-- The bytes of this markup came to what stood before, and nothing else.
pub record Shown (old new : List ℕ) (markup : Markup) : Type 0 where
  pub bytes : Appended old new (markup_then markup)
