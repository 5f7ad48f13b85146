-- The JSON of an agent.
use Rattle.std.specs.Prelude.{ℕ, Bool, List, [], ◌∷◌, Some, codes}
use Rattle.serde_json.specs.Data.{Data, boolean}
use Rattle.reg_print.specs.Trees.Members.{Listed, object_with, text}

-- whether an agent reads its principal's requests
abbrev pub agent_members : List ℕ → Bool → Listed
agent_members agent reads =
    (codes "agent", text agent)
    ∷ (codes "reads", Some (boolean reads))
    ∷ []

abbrev pub agent_tree : List ℕ → Bool → Data
agent_tree agent reads = object_with (agent_members agent reads)
