-- What is shown where a text is not empty.
use Rattle.std.proofs.Common.{◌≡◌, ℕ, ◌<◌, List, [], ◌∷◌, codes, length, refl, arith}
use Rattle.reg_pages.specs.Document.{plain}
use Rattle.reg_pages.specs.Markup.{text, beside}
use Rattle.reg_pages.specs.Noted.{apply_at}
use Rattle.reg_pages.specs.Reference.{reference_markup}

pub apply_at-some : (r : List ℕ) → 0 < length r
    → apply_at r
    ≡ plain (codes "p") (beside (text (codes "To apply: ")) (reference_markup r))
apply_at-some [] h = absurd (omega arith)
apply_at-some (b ∷ more) h = refl
