-- The JSON of when requests came, and when they were decided.
use Rattle.std.specs.Prelude.{List, [], ◌∷◌, map, codes}
use Rattle.serde_json.specs.Data.{Data, array}
use Rattle.serde_json.specs.View.{items_of}
use Rattle.reg_core.specs.declared.request.RequestTimes.{RequestTimes}
use Rattle.reg_print.specs.Trees.Act.{number_if}
use Rattle.reg_print.specs.Trees.Members.{Listed, object_with, text}

abbrev pub times_members : RequestTimes → Listed
times_members row =
    (codes "decided", number_if row.decided)
    ∷ (codes "reference", text row.reference)
    ∷ (codes "submitted", number_if row.submitted)
    ∷ []

abbrev pub times_tree : RequestTimes → Data
times_tree row = object_with (times_members row)

abbrev pub times_rows_tree : List RequestTimes → Data
times_rows_tree rows = array (items_of (map times_tree rows))
