-- The notes of a file, one row after another.
use Rattle.std.proofs.Common.{◌≡◌, ℕ, ◌+◌, true, false, List, [], ◌∷◌, ◌++◌, Result, Ok, Err, refl, sym, ap, ◌∙◌, append_assoc, append-nil}
use Rattle.std.specs.Borrow.{Bor}
use Rattle.csv.specs.declared.iter.ByteRecordsIntoIter.{ByteRecordsIntoIter}
use Rattle.reg_ranges.specs.RowReading.{HasRead, text_rows}
use Rattle.reg_ranges.proofs.ReachedRows.{first_rows}
use Rattle.reg_pages.specs.Reading.{◌>>=◌, IsFaultOfNotes, Noted, added, is_header, row_of, rows_from, rows_of}
use Rattle.reg_pages.specs.declared.reading.NotesFault.{NotesFault}
use Rattle.reg_pages.specs.declared.reading.NotesFault.TheVariants as fault

-- The header and n rows were read, and what they say is this: whatever rows follow, they are read beside
-- it.
pub record Reads (text : List ℕ) (rows : ByteRecordsIntoIter (Bor (List ℕ))) (n : ℕ)
    (before : List Noted) : Type 0 where
  pub first : List (List ℕ)
  pub named : is_header first ≡ true
  pub done : List (List (List ℕ))
  pub read : HasRead text (first ∷ done) rows
  pub left : (rest : List (List (List ℕ)))
      → rows_from 0 [] (done ++ rest) ≡ rows_from n before rest

pub no_rows : (text : List ℕ) → text_rows text ≡ [] → rows_of (text_rows text) ≡ Err fault.Header
no_rows text h = rw h refl

pub other_header : (text : List ℕ) (rows : ByteRecordsIntoIter (Bor (List ℕ)))
    (first : List (List ℕ)) → HasRead text (first ∷ []) rows → is_header first ≡ false
    → rows_of (text_rows text) ≡ Err fault.Header
other_header text rows first read named =
    let all = first_rows text (first ∷ []) _ read.rest read.reached in
    rw (all.1, named) refl

pub reads_start : (text : List ℕ) (rows : ByteRecordsIntoIter (Bor (List ℕ)))
    (first : List (List ℕ)) → HasRead text (first ∷ []) rows → is_header first ≡ true
    → Reads text rows 0 []
reads_start text rows first read named =
    record {
      first = first;
      named = named;
      done = [];
      read = read;
      left = λ rest. refl;
    }

-- what the rows say from one on
from_row : (n : ℕ) (before : List Noted) (fields : List (List ℕ)) (row : Noted)
    (rest : List (List (List ℕ))) → row_of n fields ≡ Ok row
    → rows_from n before (fields ∷ rest)
    ≡ (added n before row >>= (λ rows. rows_from (n + 1) rows rest))
from_row n before fields row rest is = rw is refl

-- the row after those that were read
pub row_after : (text : List ℕ) (old new : ByteRecordsIntoIter (Bor (List ℕ))) (n : ℕ)
    (before all : List Noted) (fields : List (List ℕ)) (row : Noted) (r : Reads text old n before)
    → HasRead text (r.first ∷ (r.done ++ fields ∷ [])) new → row_of n fields ≡ Ok row
    → added n before row ≡ Ok all → Reads text new (n + 1) all
row_after text old new n before all fields row r read is more =
    record {
      first = r.first;
      named = r.named;
      done = r.done ++ fields ∷ [];
      read = read;
      left = λ rest.
          ap (rows_from 0 []) (append_assoc r.done (fields ∷ []) rest)
          ∙ r.left (fields ∷ rest)
          ∙ from_row n before fields row rest is
          ∙ ap (λ a. a >>= (λ rows. rows_from (n + 1) rows rest)) more;
    }

-- the rows of the text, from the one after those that were read on
all_from : (text : List ℕ) (old new : ByteRecordsIntoIter (Bor (List ℕ))) (n : ℕ)
    (before : List Noted) (fields : List (List ℕ)) (r : Reads text old n before)
    → HasRead text (r.first ∷ (r.done ++ fields ∷ [])) new
    → (rest : List (List (List ℕ)))
    × (rows_of (text_rows text) ≡ rows_from n before (fields ∷ rest))
all_from text old new n before fields r read =
    let all = first_rows text (r.first ∷ (r.done ++ fields ∷ [])) _ read.rest read.reached in (
      all.0,
      rw (all.1, r.named, append_assoc r.done (fields ∷ []) all.0) (r.left (fields ∷ all.0)),
    )

-- a fault of the whole
fault_of : {A : Type 0} (f : NotesFault) (a : Result A NotesFault) (whole : Result (List Noted) NotesFault)
    → (a ≡ Err f → whole ≡ Err f) → IsFaultOfNotes a f → IsFaultOfNotes whole f
fault_of fault.Memory a whole same h = tt
fault_of fault.Large a whole same h = same h
fault_of fault.Header a whole same h = same h
fault_of (fault.Row n part) a whole same h = same h

-- the row after those that were read is at fault
pub row_at_fault : (text : List ℕ) (old new : ByteRecordsIntoIter (Bor (List ℕ))) (n : ℕ)
    (before : List Noted) (fields : List (List ℕ)) (f : NotesFault) (r : Reads text old n before)
    → HasRead text (r.first ∷ (r.done ++ fields ∷ [])) new → IsFaultOfNotes (row_of n fields) f
    → IsFaultOfNotes (rows_of (text_rows text)) f
row_at_fault text old new n before fields f r read h =
    let all = all_from text old new n before fields r read in
    fault_of f (row_of n fields) (rows_of (text_rows text))
    (λ is. all.1 ∙ ap (λ a. a >>= (λ row. added n before row >>= (λ rows. rows_from (n + 1) rows all.0))) is) h

-- the row after those that were read is about a thing of theirs
pub row_repeats : (text : List ℕ) (old new : ByteRecordsIntoIter (Bor (List ℕ))) (n : ℕ)
    (before : List Noted) (fields : List (List ℕ)) (row : Noted) (f : NotesFault)
    (r : Reads text old n before) → HasRead text (r.first ∷ (r.done ++ fields ∷ [])) new
    → row_of n fields ≡ Ok row → IsFaultOfNotes (added n before row) f
    → IsFaultOfNotes (rows_of (text_rows text)) f
row_repeats text old new n before fields row f r read is h =
    let all = all_from text old new n before fields r read in
    fault_of f (added n before row) (rows_of (text_rows text))
    (λ e. all.1 ∙ from_row n before fields row all.0 is
    ∙ ap (λ a. a >>= (λ rows. rows_from (n + 1) rows all.0)) e) h

-- no row is left
pub reads_end : (text : List ℕ) (rows : ByteRecordsIntoIter (Bor (List ℕ))) (n : ℕ)
    (before : List Noted) (r : Reads text rows n before) → text_rows text ≡ r.first ∷ r.done
    → rows_of (text_rows text) ≡ Ok before
reads_end text rows n before r all =
    rw (all, r.named) (ap (rows_from 0 []) (sym (append-nil r.done)) ∙ r.left [])
