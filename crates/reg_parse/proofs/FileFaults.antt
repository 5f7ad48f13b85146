-- No range file has the fault of memory.
use Rattle.std.proofs.Common.{◌≡◌, ℕ, ◌+◌, List, [], ◌∷◌, Bool, true, false, Result, Option, Some, None, Ok, Err, ap, cond}
use Rattle.std.specs.Option.{ok_or}
use Rattle.reg_ranges.specs.Numbers.{read_number}
use Rattle.reg_ranges.specs.RangeFile.{◌>>=◌, file_ranges, is_header, note_of, range_of, ranges_from, ranges_of}
use Rattle.reg_ranges.specs.RowReading.{text_rows}
use Rattle.reg_ranges.specs.Texts.{is_text, read_text}
use Rattle.reg_ranges.specs.Words.{read_treatment}
use Rattle.reg_ranges.specs.declared.range_file.RowFault.{RowFault}
use Rattle.reg_ranges.specs.declared.range_file.RowFault.TheVariants as fault
use Rattle.reg_ranges.specs.declared.range_file.RowPart.{RowPart}
use Rattle.reg_ranges.specs.declared.range_file.RowPart.TheVariants as part

-- whatever is read, its fault is not want of memory
record Spared {A : Type 0} (read : Result A RowFault) : Type 0 where
  spared : read ≡ Err fault.Memory → ⊥

ok-spared : {A : Type 0} (x : A) → Spared (Ok x)
ok-spared x = record { spared = λ e. cc }

row-spared : {A : Type 0} (n : ℕ) (p : RowPart) → Spared {A = A} (Err (fault.Row n p))
row-spared n p = record { spared = λ e. cc }

header-spared : {A : Type 0} → Spared {A = A} (Err fault.Header)
header-spared = record { spared = λ e. cc }

after-spared : {A B : Type 0} (read : Result A RowFault) (more : A → Result B RowFault)
    → Spared read → ((x : A) → Spared (more x)) → Spared (read >>= more)
after-spared (Ok x) more h k = k x
after-spared (Err e) more h k =
    record { spared = λ is. h.spared (let same : e ≡ fault.Memory = cc in ap Err same) }

ok_or-spared : {A : Type 0} (o : Option A) (n : ℕ) (p : RowPart) → Spared (ok_or o (fault.Row n p))
ok_or-spared None n p = row-spared n p
ok_or-spared (Some x) n p = ok-spared x

note_of-spared : (n : ℕ) (field : List ℕ) → Spared (note_of n field)
note_of-spared n [] = ok-spared None
note_of-spared n (b ∷ rest) =
    after-spared (ok_or (read_text is_text (b ∷ rest)) (fault.Row n part.Text)) _
    (ok_or-spared (read_text is_text (b ∷ rest)) n part.Text) (λ s. ok-spared (Some s))

range_of-spared : (n : ℕ) (fields : List (List ℕ)) → Spared (range_of n fields)
range_of-spared n (first ∷ last ∷ word ∷ remark ∷ []) =
    after-spared (ok_or (read_number first) (fault.Row n part.Number)) _
    (ok_or-spared (read_number first) n part.Number) (λ lo.
    after-spared (ok_or (read_number last) (fault.Row n part.Number)) _
    (ok_or-spared (read_number last) n part.Number) (λ hi.
    after-spared (ok_or (read_treatment word) (fault.Row n part.Treatment)) _
    (ok_or-spared (read_treatment word) n part.Treatment) (λ treatment.
    after-spared (note_of n remark) _ (note_of-spared n remark) (λ note. ok-spared _))))
range_of-spared n other = row-spared n part.Columns

ranges_from-spared : (n : ℕ) (rows : List (List (List ℕ))) → Spared (ranges_from n rows)
ranges_from-spared n [] = ok-spared []
ranges_from-spared n (row ∷ rows) =
    after-spared (range_of n row) _ (range_of-spared n row)
    (λ range. after-spared (ranges_from (n + 1) rows) _ (ranges_from-spared (n + 1) rows)
    (λ ranges. ok-spared (range ∷ ranges)))

headed : (b : Bool) (rows : List (List (List ℕ)))
    → Spared (cond b (ranges_from 0 rows) (Err fault.Header))
headed true rows = ranges_from-spared 0 rows
headed false rows = header-spared

ranges_of-spared : (rows : List (List (List ℕ))) → Spared (ranges_of rows)
ranges_of-spared [] = header-spared
ranges_of-spared (first ∷ rows) = headed (is_header first) rows

pub file_ranges-spared : (file : List ℕ) → file_ranges file ≡ Err fault.Memory → ⊥
unfolding file_ranges
file_ranges-spared file = (ranges_of-spared (text_rows file)).spared
