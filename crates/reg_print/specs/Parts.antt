-- The JSON of a registry in parts.
use Rattle.std.specs.Prelude.{ℕ, List, [], ◌∷◌, ◌++◌, drop, Bool, true, codes}
use Rattle.serde_json.specs.Data.{Data}
use Rattle.serde_json.specs.Written.{comma_if, compact_text}
use Rattle.reg_core.specs.declared.entry.PageEntry.{PageEntry}
use Rattle.reg_core.specs.declared.page.Page.{Page}
use Rattle.reg_print.specs.Trees.Page.{entry_tree, frame_tree}

-- what stands before the entries of a page
abbrev pub front_text : List ℕ
front_text = codes "{\"entries\":["

-- an entry, and before it a comma where others stand there
abbrev pub entry_text : Bool → PageEntry → List ℕ
entry_text later entry = comma_if later ++ compact_text (entry_tree entry)

-- the texts of an array's items, without brackets
abbrev pub listed_text : Bool → List Data → List ℕ
listed_text later [] = []
listed_text later (d ∷ ds) = (comma_if later ++ compact_text d) ++ listed_text true ds

-- what stands behind the entries of a page: the bracket, and the other members
abbrev pub end_text : Page → List ℕ
end_text page = codes "]," ++ drop 1 (compact_text (frame_tree page))
