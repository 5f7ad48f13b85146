-- Rows that a store gives to an opening in another order than that in which it has to.
use Rattle.std.specs.Prelude.{◌≡◌, ◌⊎◌, ℕ, List}
use Rattle.std.specs.Ordering.{int_cmp}
use Rattle.sqlite.specs.Order.{Row}
use Rattle.reg_maps.specs.Maps.{text_cmp}
use Rattle.reg_core.specs.World.{place_cmp}
use Rattle.reg_records.specs.Ranges.{range_in}
use Rattle.reg_records.specs.Registries.{registry_in}
use Rattle.reg_tables.specs.declared.texts.TheConstants.{SELECT_RANGES, SELECT_REGISTRIES}
use Rattle.reg_statements.specs.Loading.{ReadsInOrder}
use Rattle.reg_statements.specs.Office as office
use Rattle.reg_statements.specs.Parts.{TableDef}
use Rattle.reg_opening.specs.Acts.{AreActsUnordered}
use Rattle.reg_opening.specs.Causes.{AreUnrisen}
use Rattle.reg_opening.specs.Numbered.{ShowsNumbered}
use Rattle.reg_opening.specs.Rowids.{AsksRowids, ordered_tables, rowid_in}

-- all rows of a table, with their rowids, which do not rise
abbrev pub IsUnnumbered : {T K X : Type 0} → TableDef T K X → List ℕ → List Row → Type 0
IsUnnumbered d sql rows = ShowsNumbered d sql × AreUnrisen d.width rows

-- all registries, or all ranges, which are not in the order of their names and first values
abbrev pub AreRegistriesUnordered : List ℕ → List Row → Type 0
AreRegistriesUnordered sql rows =
    ((sql ≡ SELECT_REGISTRIES.now) × ¬ ReadsInOrder registry_in (λ a b. text_cmp a.name b.name) rows)
    ⊎ ((sql ≡ SELECT_RANGES.now) × ¬ ReadsInOrder range_in
    (λ a b. place_cmp (a.registry, a.range.lo) (b.registry, b.range.lo)) rows)

-- so of the parts, in the order in which an audit is fed them
abbrev pub ArePartsUnordered : List ℕ → List Row → Type 0
ArePartsUnordered sql rows =
    (IsUnnumbered office.caps sql rows ⊎ (AreRegistriesUnordered sql rows
    ⊎ (IsUnnumbered office.entries sql rows ⊎ IsUnnumbered office.holds sql rows)))
    ⊎ ((IsUnnumbered office.pool sql rows ⊎ (IsUnnumbered office.blocks sql rows
    ⊎ (IsUnnumbered office.requests sql rows ⊎ IsUnnumbered office.minutes sql rows)))
    ⊎ (IsUnnumbered office.queue sql rows
    ⊎ (IsUnnumbered office.advice sql rows ⊎ IsUnnumbered office.agents sql rows)))

-- the rowids alone, of a table that is read in another order, which do not rise
abbrev pub AreRowidsUnordered : List ℕ → List Row → Type 0
AreRowidsUnordered sql rows =
    AsksRowids ordered_tables sql × ¬ ReadsInOrder rowid_in int_cmp rows

-- any of these, or the acts
abbrev pub IsUnordered : List ℕ → List Row → Type 0
IsUnordered sql rows =
    AreRowidsUnordered sql rows ⊎ (ArePartsUnordered sql rows ⊎ AreActsUnordered sql rows)
