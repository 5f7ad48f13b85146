-- The JSON of the pool.
use Rattle.std.specs.Prelude.{ℕ, List, [], ◌∷◌, map, codes}
use Rattle.serde_json.specs.Data.{Data, string, array}
use Rattle.serde_json.specs.View.{items_of}
use Rattle.reg_blocks.specs.Digits.{prefix_text}
use Rattle.reg_print.specs.Trees.Members.{object_with, text}

-- a prefix as its text: six hexadecimal digits in upper case
abbrev pub prefix_tree : ℕ → Data
prefix_tree prefix = string (prefix_text prefix)

abbrev pub pool_tree : List ℕ → Data
pool_tree prefixes = array (items_of (map prefix_tree prefixes))

abbrev pub pooled_tree : ℕ → Data
pooled_tree prefix = object_with ((codes "pool", text (prefix_text prefix)) ∷ [])
