-- Rows of whole tables, and the texts of their statements.
use Rattle.std.specs.Prelude.{ℕ, List}
use Rattle.reg_core.specs.CapRows.{cap_row}
use Rattle.reg_core.specs.Link.{link_row}
use Rattle.reg_core.specs.declared.capability.CapRow.{CapRow}
use Rattle.reg_core.specs.declared.link.LinkRow.{LinkRow}
use Rattle.reg_records.specs.declared.links.Link.{Link}
use Rattle.reg_records.specs.declared.caps.Grant.{Grant}
use Rattle.reg_rows.specs.declared.whole.TheConstants.{SELECT_AGENTS, SELECT_CAPS}

abbrev pub select_caps : List ℕ
select_caps = SELECT_CAPS.now

abbrev pub select_agents : List ℕ
select_agents = SELECT_AGENTS.now

-- a row of a table as a keeper gives it
abbrev pub cap_of : Grant → CapRow
cap_of grant = cap_row grant.digest grant.cap

abbrev pub link_of : Link → LinkRow
link_of link = link_row (link.principal, link.agent)
