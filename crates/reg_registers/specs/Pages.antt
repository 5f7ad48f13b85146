-- Registries as they are shown on a day.
use Rattle.std.specs.Prelude.{ℕ, List, Result, Ok}
use Rattle.std.specs.FinMap.{get}
use Rattle.reg_core.specs.Allowance.{◌>>=◌, or_refusal}
use Rattle.reg_core.specs.Entry.{registration_in, page_entry}
use Rattle.reg_core.specs.Page.{page}
use Rattle.reg_core.specs.View.{Published}
use Rattle.reg_core.specs.declared.entry.Entry.{Entry}
use Rattle.reg_core.specs.declared.entry.PageEntry.{PageEntry}
use Rattle.reg_core.specs.declared.page.Page.{Page}
use Rattle.reg_core.specs.declared.refusal.Refusal.{Refusal}
use Rattle.reg_core.specs.declared.refusal.Refusal.TheVariants as no

-- an entry as it is shown on a day
abbrev pub shown_on : ℕ → Entry → PageEntry
shown_on today entry = page_entry today entry.value (registration_in entry)

-- the registry of this name
abbrev pub page_on : Published → List ℕ → ℕ → Result Page Refusal
page_on p name today = do
  table ← or_refusal no.Registry (get p.registries name)
  Ok (page p name table today)
