-- The entries that a keeper gives, as they are shown.
use Rattle.std.proofs.Common.{◌≡◌, ℕ, List, [], ◌∷◌, refl, ap}
use Rattle.std.specs.Prelude.{map}
use Rattle.std.specs.FinMap.{FinMap, entries}
use Rattle.std.proofs.lemmas.Simd.{map-map}
use Rattle.reg_core.specs.Entry.{entry_row, page_entry}
use Rattle.reg_core.specs.Page.{entry_rows}
use Rattle.reg_core.specs.World.{Place, place_cmp}
use Rattle.reg_core.specs.declared.entry.Entry.{Entry}
use Rattle.reg_core.specs.declared.entry.Registration.{Registration}
use Rattle.reg_registers.specs.Pages.{shown_on}

rows_shown : (today : ℕ) (es : List (Place × Registration))
    → map (shown_on today) (map (λ e. entry_row e.0.0 e.0.1 e.1) es)
    ≡ map (λ e. page_entry today e.0.1 e.1) es
rows_shown today [] = refl
rows_shown today (e ∷ es) = ap (λ shown. page_entry today e.0.1 e.1 ∷ shown) (rows_shown today es)

pub entries_shown : (today : ℕ) (m : FinMap place_cmp Registration)
    → map (shown_on today) (entry_rows m) ≡ map (λ e. page_entry today e.0.1 e.1) (entries m)
entries_shown today m = rows_shown today (entries m)

-- an entry is shown at its value
pub values_shown : (today : ℕ) (es : List Entry)
    → map (λ e. e.value) (map (shown_on today) es) ≡ map (λ e. e.value) es
values_shown today es = map-map (λ e. e.value) (shown_on today) es
