-- A registry as it is published on a day.
use Rattle.std.specs.Prelude.{ℕ, List, map}
use Rattle.std.specs.FinMap.{FinMap, entries}
use Rattle.reg_ranges.specs.Tables.{Table}
use Rattle.reg_core.specs.Entry.{entry_row, page_entry}
use Rattle.reg_core.specs.View.{Published, entries_of}
use Rattle.reg_core.specs.World.{place_cmp}
use Rattle.reg_core.specs.declared.entry.Registration.{Registration}
use Rattle.reg_core.specs.declared.entry.Entry.{Entry}
use Rattle.reg_core.specs.declared.entry.PageEntry.{PageEntry}
use Rattle.reg_core.specs.declared.page.Page.{Page}

-- entries with their places, in order
abbrev pub entry_rows : FinMap place_cmp Registration → List Entry
entry_rows m = map (λ e. entry_row e.0.0 e.0.1 e.1) (entries m)

-- a registry's entries by value, as they are on a day
abbrev pub page_entries : Published → List ℕ → ℕ → List PageEntry
page_entries p name today =
    map (λ e. page_entry today e.0.1 e.1) (entries (entries_of name p.entries))

-- a registry as it is published on a day
abbrev pub page : Published → List ℕ → Table → ℕ → Page
page p name table today =
    record { name = name; table = table; entries = page_entries p name today }
