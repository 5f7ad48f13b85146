-- Links: which account, a principal, has which other as its agent, who may read its requests.
use Rattle.std.specs.Prelude.{ℕ, Bool, ◌&&◌, not, List, map}
use Rattle.std.specs.FinMap.{keys, entries}
use Rattle.std.specs.FinSet.{FinSet}
use Rattle.reg_maps.specs.Maps.{same_text}
use Rattle.reg_core.specs.Names.{is_name}
use Rattle.reg_core.specs.World.{Link, link_cmp}
use Rattle.reg_core.specs.declared.link.LinkRow.{LinkRow}

abbrev pub link_row : Link → LinkRow
link_row link = record { principal = link.0; agent = link.1 }

-- all links, by principal and then by agent
abbrev pub link_rows : FinSet link_cmp → List LinkRow
link_rows links = map (λ e. link_row e.0) (entries links)

-- the accounts on each side of links, in order
abbrev pub agent_rows : FinSet link_cmp → List (List ℕ)
agent_rows links = map (λ link. link.1) (keys links)

abbrev pub principal_names : FinSet link_cmp → List (List ℕ)
principal_names links = map (λ link. link.0) (keys links)

-- both are accounts, and not the same one
abbrev pub has_link_form : Link → Bool
has_link_form link = is_name link.0 && is_name link.1 && not (same_text link.1 link.0)
