-- The blocks that were given as a listing, and its text.
use Rattle.std.specs.Prelude.{ℕ, List, [], ◌∷◌, map, unwrap_or, codes}
use Rattle.reg_blocks.specs.Digits.{block_text}
use Rattle.reg_blocks.specs.Size.{word_of}
use Rattle.reg_core.specs.declared.holding.Listed.{Listed}
use Rattle.reg_print.specs.Listing.{csv_text}

abbrev pub block_header : List (List ℕ)
block_header =
    codes "Registry" ∷ codes "Assignment" ∷ codes "Organization Name"
    ∷ codes "Organization Address" ∷ []

-- the size, the digits of the prefix, the organization and its address; of a private holder the
-- word that says so, and no address
abbrev pub block_fields : Listed → List (List ℕ)
block_fields row =
    word_of row.block.size ∷ block_text row.block ∷ unwrap_or row.organization (codes "Private")
    ∷ unwrap_or row.address [] ∷ []

-- the records of a listing of blocks
abbrev pub block_records : List Listed → List (List (List ℕ))
block_records rows = block_header ∷ map block_fields rows

unfoldable pub block_listing_text : List Listed → List ℕ
block_listing_text rows = csv_text (block_records rows)
