-- How the values of a row stand, as a page says it.
use Rattle.std.specs.Prelude.{ℕ, Bool, true, false, ◌&&◌, List, codes, Option, Some, None, if◌then◌else◌}
use Rattle.reg_core.specs.declared.entry.PageEntry.{PageEntry}
use Rattle.reg_early.specs.declared.term.Status.TheVariants as term
use Rattle.reg_print.specs.Listing.{ListedRow, status_word}
use Rattle.reg_print.specs.declared.listing.rows.RowStatus.{RowStatus}
use Rattle.reg_print.specs.declared.listing.rows.RowStatus.TheVariants.{Unassigned, Reserved, PrivateUse, ExperimentalUse, HierarchicalAllocation, Entry}

-- a clerk holds the entry
abbrev pub is_held : Option PageEntry → Bool
is_held None = false
is_held (Some e) = e.term.held

abbrev pub is_temporary : RowStatus → Bool
is_temporary (Entry term.Temporary) = true
is_temporary (Entry term.Assigned) = false
is_temporary (Entry term.Expired) = false
is_temporary Unassigned = false
is_temporary Reserved = false
is_temporary PrivateUse = false
is_temporary ExperimentalUse = false
is_temporary HierarchicalAllocation = false

-- the words of the listing, and of an early allocation that is held that it is
abbrev pub shown_status : ListedRow → List ℕ
shown_status listed =
    if is_temporary listed.status && is_held listed.entry then codes "Temporary (held)"
    else status_word listed.status
