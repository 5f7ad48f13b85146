-- The notes of an authority, by what they are about.
use Rattle.std.specs.Prelude.{ℕ, List, [], ◌++◌, codes, Option}
use Rattle.std.specs.BTreeMap.{btree_map_len, get_by_text}
use Rattle.std.specs.Fmt.{decimal}
use Rattle.reg_pages.specs.declared.note.Note.{Note}
use Rattle.reg_pages.specs.declared.notes.Notes.{Notes}

-- A thing is named by a text: the authority by none, its desk by a comma and a word, a registry by its
-- name, and an entry by the name of its registry, a comma and its value.
abbrev pub authority : List ℕ
authority = []

abbrev pub desk : List ℕ
desk = codes ",desk"

abbrev pub entry_thing : List ℕ → ℕ → List ℕ
entry_thing name value = name ++ (codes "," ++ decimal value)

-- the note on the thing of this name, if there is one
abbrev pub note_at : Notes → List ℕ → Option Note
note_at notes thing = get_by_text notes.rows thing

-- how many notes there are
abbrev pub note_count : Notes → ℕ
note_count notes = btree_map_len notes.rows
