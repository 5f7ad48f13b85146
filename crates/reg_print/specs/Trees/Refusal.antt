-- The JSON of refusals.
use Rattle.std.specs.Prelude.{[], ◌∷◌, option_map, codes}
use Rattle.serde_json.specs.Data.{Data, string}
use Rattle.reg_print.specs.Detail.{detail_text}
use Rattle.reg_print.specs.Refusal.{RowOfRefusals}
use Rattle.reg_print.specs.Trees.Members.{Listed, object_with, text}

-- a refusal by its name, and what it is about
abbrev pub error_members : RowOfRefusals → Listed
error_members row =
    (codes "error", text row.name)
    ∷ (codes "item", option_map (λ d. string (detail_text d)) row.item)
    ∷ []

abbrev pub error_tree : RowOfRefusals → Data
error_tree row = object_with (error_members row)
