-- What is noted about a thing, as a page shows it.
use Rattle.std.specs.Prelude.{ℕ, List, [], ◌∷◌, codes, Option, Some, None, option_and_then}
use Rattle.reg_core.specs.declared.entry.PageEntry.{PageEntry}
use Rattle.reg_pages.specs.Document.{attribute, plain}
use Rattle.reg_pages.specs.Markup.{Markup, nothing, text, element, beside}
use Rattle.reg_pages.specs.Notes.{authority, desk, entry_thing, note_at}
use Rattle.reg_pages.specs.declared.note.Note.{Note}
use Rattle.reg_pages.specs.declared.notes.Notes.{Notes}
use Rattle.reg_print.specs.Listing.{ListedRow}
use Rattle.reg_pages.specs.Reference.{reference_markup}

-- ---- Looked up

-- the note on a thing, where there are notes
abbrev pub noted_in : Option Notes → List ℕ → Option Note
noted_in notes thing = option_and_then (λ n. note_at n thing) notes

-- the note on the entry of a row of this registry; none where it has none
abbrev pub note_of_entry : Option Notes → List ℕ → Option PageEntry → Option Note
note_of_entry notes name None = None
note_of_entry notes name (Some e) = noted_in notes (entry_thing name e.value)

abbrev pub note_of_row : Option Notes → List ℕ → ListedRow → Option Note
note_of_row notes name listed = note_of_entry notes name listed.entry

-- ---- What it says

-- the title of a note; nothing where there is none
abbrev pub title_in : Option Note → List ℕ
title_in None = []
title_in (Some n) = n.title

-- the same of its reference, and of what else it says
abbrev pub reference_in : Option Note → List ℕ
reference_in None = []
reference_in (Some n) = n.reference

abbrev pub words_in : Option Note → List ℕ
words_in None = []
words_in (Some n) = n.note

-- ---- Shown

-- the title of a note; nothing where it is empty
abbrev pub title_shown : List ℕ → Markup
title_shown [] = nothing
title_shown (b ∷ more) = beside (plain (codes "strong") (text (b ∷ more))) (text (codes " "))

-- a note: its title, its reference and what else it says
abbrev pub note_shown : Note → Markup
note_shown n =
    element (codes "div") (attribute (codes "class") (codes "note") ∷ [])
    (beside (title_shown n.title)
    (beside (reference_markup n.reference) (beside (text (codes " ")) (text n.note))))

-- nothing where there is no note
abbrev pub noted : Option Note → Markup
noted None = nothing
noted (Some n) = note_shown n

-- ---- Where to apply

-- one line that says where to apply; nothing where the notes do not say it
abbrev pub apply_at : List ℕ → Markup
apply_at [] = nothing
apply_at (b ∷ more) =
    plain (codes "p")
    (beside (text (codes "To apply: ")) (reference_markup (b ∷ more)))

-- the same by the note on the authority, and the note on its desk
abbrev pub apply_by : Option Note → Option Note → Markup
apply_by of_authority of_desk = beside (apply_at (reference_in of_authority)) (noted of_desk)

abbrev pub apply_lines : Option Notes → Markup
apply_lines notes = apply_by (noted_in notes authority) (noted_in notes desk)
