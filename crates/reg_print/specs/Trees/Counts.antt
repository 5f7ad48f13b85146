-- The JSON of how many rows of each kind there are.
use Rattle.std.specs.Prelude.{[], ◌∷◌, codes}
use Rattle.serde_json.specs.Data.{Data}
use Rattle.reg_core.specs.declared.counts.Counts.{Counts}
use Rattle.reg_print.specs.Trees.Members.{Listed, object_with, whole_number}

abbrev pub counts_members : Counts → Listed
counts_members counts =
    (codes "agents", whole_number counts.agents)
    ∷ (codes "blocks", whole_number counts.blocks)
    ∷ (codes "capabilities", whole_number counts.caps.all)
    ∷ (codes "entries", whole_number counts.entries.all)
    ∷ (codes "expired", whole_number counts.entries.expired)
    ∷ (codes "held", whole_number counts.entries.held)
    ∷ (codes "prefixes", whole_number counts.prefixes)
    ∷ (codes "registries", whole_number counts.registries)
    ∷ (codes "temporary", whole_number counts.entries.temporary)
    ∷ (codes "valid", whole_number counts.caps.valid)
    ∷ []

abbrev pub counts_tree : Counts → Data
counts_tree counts = object_with (counts_members counts)
