use Rattle.std.proofs.Common.{ℕ, List, []}
use Rattle.csv.specs.Reading.{owned_rows_left}
use Rattle.reg_ranges.specs.RowReading.{HasRead}
use Rattle.reg_pages.specs.Notes.{note_count}
use Rattle.reg_pages.specs.Reading.{AreNotes, Noted}
use Rattle.reg_pages.proofs.NotesRows.{Reads}
use Rattle.reg_pages.proofs.reading.notes_of.Given as goal

abbrev pub invariant-loop-notes : goal.invariant-loop-notes
invariant-loop-notes l =
    (text : List ℕ) → HasRead text [] l.fn.rows
    → (before : List Noted) × Reads text l.rows (note_count l.notes) before × AreNotes l.notes before

abbrev pub decreases-loop-notes : goal.decreases-loop-notes
decreases-loop-notes l = owned_rows_left l.rows
