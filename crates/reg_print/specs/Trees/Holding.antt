-- The JSON of the blocks that an applicant holds.
use Rattle.std.specs.Prelude.{List, [], ◌∷◌, map, Some, codes}
use Rattle.serde_json.specs.Data.{Data, array, boolean}
use Rattle.serde_json.specs.View.{items_of}
use Rattle.reg_blocks.specs.Digits.{block_text}
use Rattle.reg_blocks.specs.Size.{word_of}
use Rattle.reg_core.specs.declared.holding.Holding.{Holding}
use Rattle.reg_print.specs.Trees.Members.{Listed, object_with, text}

abbrev pub holding_members : Holding → Listed
holding_members h =
    (codes "address", text h.address)
    ∷ (codes "block", text (block_text h.block))
    ∷ (codes "organization", text h.organization)
    ∷ (codes "private", Some (boolean h.private))
    ∷ (codes "size", text (word_of h.block.size))
    ∷ []

abbrev pub holding_tree : Holding → Data
holding_tree h = object_with (holding_members h)

abbrev pub holdings_tree : List Holding → Data
holdings_tree holdings = array (items_of (map holding_tree holdings))
