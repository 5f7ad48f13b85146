-- Pieces of a page, by which its markup is appended.
use Rattle.std.specs.Prelude.{ℕ, List, [], ◌∷◌, ◌++◌}
use Rattle.std.specs.Fmt.{decimal}
use Rattle.reg_pages.specs.Document.{link}
use Rattle.reg_pages.specs.Escape.{escaped}
use Rattle.reg_pages.specs.Markup.{markup_then}
use Rattle.reg_pages.specs.declared.markup.Piece.{Piece}
use Rattle.reg_pages.specs.declared.markup.Piece.TheVariants as piece

-- the bytes of a piece, and then the rest
abbrev pub piece_then : Piece → List ℕ → List ℕ
piece_then (piece.Markup markup) rest = markup.now ++ rest
piece_then (piece.Text text) rest = escaped text.now ++ rest
piece_then (piece.Number n) rest = escaped (decimal n) ++ rest
piece_then (piece.Link target title) rest = markup_then (link target.now title.now) rest

-- the bytes of pieces in turn, and then the rest
abbrev pub pieces_then : List Piece → List ℕ → List ℕ
pieces_then [] rest = rest
pieces_then (p ∷ more) rest = piece_then p (pieces_then more rest)

-- a text with markup before it and behind it, nothing where it is empty, and then the rest
abbrev pub framed_then : List ℕ → List ℕ → List ℕ → List ℕ → List ℕ
framed_then before [] behind rest = rest
framed_then before (b ∷ more) behind rest = before ++ (escaped (b ∷ more) ++ (behind ++ rest))
