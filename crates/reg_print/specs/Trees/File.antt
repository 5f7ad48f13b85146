-- The JSON of a request with all that the desk has of it.
use Rattle.std.specs.Prelude.{List, [], ◌∷◌, ◌++◌, map, Some, codes}
use Rattle.serde_json.specs.Data.{Data, array}
use Rattle.serde_json.specs.View.{items_of}
use Rattle.reg_core.specs.declared.case_file.CaseFile.{CaseFile}
use Rattle.reg_core.specs.declared.case_file.WaitingFile.{WaitingFile}
use Rattle.reg_print.specs.Trees.Act.{number_if}
use Rattle.reg_print.specs.Trees.Advice.{opinions_tree}
use Rattle.reg_print.specs.Trees.Ask.{ask_tree}
use Rattle.reg_print.specs.Trees.Members.{Listed, object_with, text}
use Rattle.reg_print.specs.Trees.Members.{names_tree}
use Rattle.reg_print.specs.Trees.Request.{standing_members}

-- the request as the desk sees it, its experts, and their advice
abbrev pub file_members : CaseFile → Listed
file_members file =
    (codes "account", text file.request.account)
    ∷ (codes "advice", Some (opinions_tree file.advice))
    ∷ (codes "ask", Some (ask_tree file.request.ask))
    ∷ (codes "experts", Some (names_tree file.experts))
    ∷ standing_members file.request

-- the JSON of a request with all that the desk has of it: its experts, and all advice on it
abbrev pub file_tree : CaseFile → Data
file_tree file = object_with (file_members file)

-- a request that waits, also with the moment at which it came, where that is known
abbrev pub waiting_members : WaitingFile → Listed
waiting_members waiting =
    file_members waiting.file ++ (codes "submitted", number_if waiting.submitted) ∷ []

abbrev pub waiting_tree : WaitingFile → Data
waiting_tree waiting = object_with (waiting_members waiting)

abbrev pub waiting_list_tree : List WaitingFile → Data
waiting_list_tree files = array (items_of (map waiting_tree files))
