-- How many rows of each kind there are.
use Rattle.std.specs.Prelude.{◌+◌, ℕ, Bool, true, false, List, length, count_by, nat_lt}
use Rattle.std.specs.FinMap.{keys}
use Rattle.std.specs.List.{flat_map}
use Rattle.reg_early.specs.Terms.{status_on}
use Rattle.reg_early.specs.declared.term.Status.{Status}
use Rattle.reg_early.specs.declared.term.Status.TheVariants.{Assigned, Temporary, Expired}
use Rattle.reg_core.specs.CapRows.{cap_rows}
use Rattle.reg_core.specs.Holding.{listed_rows, masked_blocks}
use Rattle.reg_core.specs.Link.{link_rows}
use Rattle.reg_core.specs.Page.{entry_rows}
use Rattle.reg_core.specs.View.{entries_of}
use Rattle.reg_core.specs.World.{World}
use Rattle.reg_core.specs.declared.capability.CapRow.{CapRow}
use Rattle.reg_core.specs.declared.counts.CapCounts.{CapCounts}
use Rattle.reg_core.specs.declared.counts.Counts.{Counts}
use Rattle.reg_core.specs.declared.counts.EntryCounts.{EntryCounts}
use Rattle.reg_core.specs.declared.entry.Entry.{Entry}

-- ---- Entries

-- two statuses are the same
abbrev pub same_status : Status → Status → Bool
same_status Assigned Assigned = true
same_status Temporary Temporary = true
same_status Expired Expired = true
same_status a b = false

-- those of registries, one after the other
abbrev pub entries_in : List (List ℕ) → World → List Entry
entries_in names w = flat_map (λ name. entry_rows (entries_of name w.entries)) names

-- how many of these entries have a status on a day
abbrev pub with_status : ℕ → Status → List Entry → ℕ
with_status today status entries =
    count_by (λ e. same_status (status_on e.term today) status) entries

-- how many entries there are, and how many of them are temporary, expired and held
abbrev pub entry_counts : ℕ → List Entry → EntryCounts
entry_counts today entries = record {
  all = length entries;
  temporary = with_status today Temporary entries;
  expired = with_status today Expired entries;
  held = count_by (λ e. e.term.held) entries;
}

-- the counts of two lists together
abbrev pub plus : EntryCounts → EntryCounts → EntryCounts
plus a b = record {
  all = a.all + b.all;
  temporary = a.temporary + b.temporary;
  expired = a.expired + b.expired;
  held = a.held + b.held;
}

-- ---- Capabilities

-- how many capabilities there are, and how many of them are valid at a moment
abbrev pub cap_counts : ℕ → List CapRow → CapCounts
cap_counts moment rows = record {
  all = length rows;
  valid = count_by (λ row. nat_lt moment row.cap.until) rows;
}

-- ---- All but requests

-- at a moment, and on its day: a number of requests would tell of requests that a caller does not see
abbrev pub counts : ℕ → ℕ → World → Counts
counts moment today w = record {
  registries = length (keys w.registries);
  entries = entry_counts today (entries_in (keys w.registries) w);
  caps = cap_counts moment (cap_rows w.caps);
  prefixes = length (keys w.pool);
  blocks = length (listed_rows (masked_blocks w.blocks));
  agents = length (link_rows w.agents);
}
