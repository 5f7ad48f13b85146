-- The JSON of capabilities.
use Rattle.std.specs.Prelude.{List, [], ◌∷◌, map, take, true, Some, codes}
use Rattle.serde_json.specs.Data.{Data, array, boolean}
use Rattle.serde_json.specs.View.{items_of}
use Rattle.reg_core.specs.Capability.{kind_word}
use Rattle.reg_core.specs.declared.capability.Cap.{Cap}
use Rattle.reg_core.specs.declared.capability.CapRow.{CapRow}
use Rattle.reg_print.specs.Trees.Members.{Listed, object_with, text, whole_number}

-- of what kind it is, and until when it is valid
abbrev pub right_members : Cap → Listed
right_members cap =
    (codes "kind", text (kind_word cap.kind))
    ∷ (codes "until", whole_number cap.until)
    ∷ []

abbrev pub cap_members : Cap → Listed
cap_members cap = (codes "account", text cap.account) ∷ right_members cap

abbrev pub cap_tree : Cap → Data
cap_tree cap = object_with (cap_members cap)

-- also the first 12 digits of the digest of the token that has it
abbrev pub cap_row_members : CapRow → Listed
cap_row_members row =
    (codes "account", text row.cap.account)
    ∷ (codes "digest", text (take 12 row.digest))
    ∷ right_members row.cap

abbrev pub cap_row_tree : CapRow → Data
cap_row_tree row = object_with (cap_row_members row)

abbrev pub cap_rows_tree : List CapRow → Data
cap_rows_tree rows = array (items_of (map cap_row_tree rows))

abbrev pub revoked_tree : Data
revoked_tree = object_with ((codes "revoked", Some (boolean true)) ∷ [])
