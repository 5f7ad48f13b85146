-- What a file of notes says: a record `registry,value,title,reference,note`, and then one for each thing.
use Rattle.std.specs.Prelude.{◌≡◌, ℕ, ◌+◌, Bool, List, [], ◌∷◌, ◌++◌, nat_lt, length, Option, Result, Ok, Err, codes, is_some, if◌then◌else◌}
use Rattle.std.specs.Cmp.Lexicographic.{pointwise}
use Rattle.std.specs.Fmt.{decimal}
use Rattle.std.specs.Map.{lookup}
use Rattle.std.specs.Option.{ok_or}
use Rattle.std.specs.Str.{bytes_eq}
use Rattle.reg_core.specs.Names.{is_name}
use Rattle.reg_pages.specs.Notes.{authority, desk, entry_thing, note_at}
use Rattle.reg_pages.specs.declared.notes.Notes.{Notes}
use Rattle.reg_pages.specs.Words.{is_words}
use Rattle.reg_pages.specs.declared.note.Note.{Note}
use Rattle.reg_pages.specs.declared.reading.NotesFault.{NotesFault}
use Rattle.reg_pages.specs.declared.reading.NotesFault.TheVariants as fault
use Rattle.reg_pages.specs.declared.reading.NotesPart.{NotesPart}
use Rattle.reg_pages.specs.declared.reading.NotesPart.TheVariants as part
use Rattle.reg_ranges.specs.Numbers.{read_number}
use Rattle.reg_ranges.specs.RowReading.{text_rows}
use Rattle.reg_ranges.specs.Texts.{read_text}

infixl 10 ◌>>=◌
abbrev pub ◌>>=◌ : {A B : Type 0} → Result A NotesFault → (A → Result B NotesFault)
    → Result B NotesFault
(Ok x) >>= f = f x
(Err e) >>= f = Err e

abbrev pub header : List (List ℕ)
header =
    codes "registry" ∷ codes "value" ∷ codes "title" ∷ codes "reference" ∷ codes "note" ∷ []

abbrev pub is_header : List (List ℕ) → Bool
is_header fields = pointwise bytes_eq fields header

-- ---- A row

-- the thing that row n is about that is of no registry, whose value this is: the authority, or its desk
abbrev pub own_thing : ℕ → List ℕ → Result (List ℕ) NotesFault
own_thing n [] = Ok authority
own_thing n (b ∷ more) =
    if bytes_eq (b ∷ more) (codes "desk") then Ok desk else Err (fault.Row n part.Value)

-- the thing that row n is about, whose registry and value these are
abbrev pub thing_of : ℕ → List ℕ → List ℕ → Result (List ℕ) NotesFault
thing_of n [] value = own_thing n value
thing_of n (b ∷ name) [] = ok_or (read_text is_name (b ∷ name)) (fault.Row n part.Registry)
thing_of n (b ∷ name) (d ∷ digits) = do
  registry ← ok_or (read_text is_name (b ∷ name)) (fault.Row n part.Registry)
  value ← ok_or (read_number (d ∷ digits)) (fault.Row n part.Value)
  Ok (entry_thing registry value)

-- the words of a field of row n
abbrev pub words_of : ℕ → List ℕ → Result (List ℕ) NotesFault
words_of n field = ok_or (read_text is_words field) (fault.Row n part.Text)

abbrev pub note_of : ℕ → List ℕ → List ℕ → List ℕ → Result Note NotesFault
note_of n first second third = do
  title ← words_of n first
  reference ← words_of n second
  note ← words_of n third
  Ok (record { title = title; reference = reference; note = note })

-- a thing with its note
abbrev pub Noted : Type 0
Noted = List ℕ × Note

-- what row n says, or its first fault: its columns, then each from left to right
abbrev pub row_of : ℕ → List (List ℕ) → Result Noted NotesFault
row_of n (registry ∷ value ∷ title ∷ reference ∷ words ∷ []) = do
  thing ← thing_of n registry value
  note ← note_of n title reference words
  Ok (thing, note)
row_of n fields = Err (fault.Row n part.Columns)

-- ---- The file

-- the note on a thing among these
abbrev pub noted_at : List Noted → List ℕ → Option Note
noted_at rows thing = lookup (λ t. bytes_eq t thing) rows

-- a row beside those before it, the last of which is the first here; none has its thing
abbrev pub added : ℕ → List Noted → Noted → Result (List Noted) NotesFault
added n before row =
    if is_some (noted_at before row.0) then Err (fault.Row n part.Repeated)
    else Ok (row ∷ before)

-- what the rows from row n on say beside those before them
abbrev pub rows_from : ℕ → List Noted → List (List (List ℕ)) → Result (List Noted) NotesFault
rows_from n before [] = Ok before
rows_from n before (fields ∷ more) = do
  row ← row_of n fields
  rows ← added n before row
  rows_from (n + 1) rows more

abbrev pub rows_of : List (List (List ℕ)) → Result (List Noted) NotesFault
rows_of [] = Err fault.Header
rows_of (first ∷ rows) = if is_header first then rows_from 0 [] rows else Err fault.Header

-- the notes of a file, the last one first
unfoldable pub file_notes : List ℕ → Result (List Noted) NotesFault
file_notes file =
    if nat_lt 1048576 (length file) then Err fault.Large else rows_of (text_rows file)

-- the fault is the one that reading finds, unless memory ran out
abbrev pub IsFaultOfNotes : {A : Type 0} → Result A NotesFault → NotesFault → Type 0
IsFaultOfNotes read fault.Memory = Unit {0}
IsFaultOfNotes read fault.Large = read ≡ Err fault.Large
IsFaultOfNotes read fault.Header = read ≡ Err fault.Header
IsFaultOfNotes read (fault.Row n part) = read ≡ Err (fault.Row n part)

-- ---- Faults as texts

abbrev pub part_word : NotesPart → List ℕ
part_word part.Columns = codes "columns"
part_word part.Registry = codes "registry"
part_word part.Value = codes "value"
part_word part.Text = codes "text"
part_word part.Repeated = codes "repeated"

abbrev pub notes_fault_text : NotesFault → List ℕ
notes_fault_text fault.Large = codes "large"
notes_fault_text fault.Header = codes "header"
notes_fault_text (fault.Row n p) = codes "row " ++ decimal n ++ codes " " ++ part_word p
notes_fault_text fault.Memory = codes "memory"

-- ---- The notes that are kept

-- the notes are those of these rows
abbrev pub AreNotes : Notes → List Noted → Type 0
AreNotes notes rows = (thing : List ℕ) → note_at notes thing ≡ noted_at rows thing

-- A row was added: the notes are those of the rows now. It was not: that is the fault.
abbrev pub AddsNotes : Result (Unit {0}) NotesFault → Notes → Result (List Noted) NotesFault → Type 0
AddsNotes (Ok done) notes rows = (all : List Noted) × (rows ≡ Ok all) × AreNotes notes all
AddsNotes (Err f) notes rows = IsFaultOfNotes rows f
