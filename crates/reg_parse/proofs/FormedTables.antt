-- A range table that is read has its form.
use Rattle.std.proofs.Common.{◌≡◌, ℕ, ◌+◌, List, [], ◌∷◌, Bool, true, false, Result, Option, Some, None, Ok, Err, refl, cond}
use Rattle.std.specs.List.{list_all}
use Rattle.std.specs.Option.{ok_or}
use Rattle.reg_ranges.specs.Faults.{first_fault}
use Rattle.reg_ranges.specs.Numbers.{read_number}
use Rattle.reg_ranges.specs.RangeFile.{◌>>=◌, file_ranges, is_header, note_of, range_of, ranges_from, ranges_of}
use Rattle.reg_ranges.specs.RowReading.{text_rows}
use Rattle.reg_ranges.specs.Tables.{Table}
use Rattle.reg_ranges.specs.Texts.{is_text, read_text}
use Rattle.reg_ranges.specs.Words.{read_treatment}
use Rattle.reg_ranges.specs.declared.range_file.RowFault.{RowFault}
use Rattle.reg_ranges.specs.declared.range_file.RowFault.TheVariants as fault
use Rattle.reg_ranges.specs.declared.range_file.RowPart.TheVariants as part
use Rattle.reg_ranges.specs.declared.range.Range.{Range}
use Rattle.reg_ranges.specs.declared.table.RangeFault.{RangeFault}
use Rattle.reg_core.specs.Ask.{has_note_form}
use Rattle.reg_core.specs.Registry.{has_table_form}
use Rattle.reg_json.specs.Members as members
use Rattle.reg_parse.specs.RangeFile.{or_row_refusal, refusal_of_row, table_of, unless_fault}
use Rattle.reg_parse.proofs.Formed.{Passes, ok-passes, err-passes, guard, is_below}

abbrev has_form : Range → Bool
has_form range = has_note_form range.note

-- ---- rows

note_at : (n : ℕ) (o : Option (List ℕ)) → ((s : List ℕ) → o ≡ Some s → is_text s ≡ true)
    → Passes has_note_form (ok_or o (fault.Row n part.Text) >>= (λ text. Ok (Some text)))
note_at n None h = err-passes _ (fault.Row n part.Text)
note_at n (Some s) h = ok-passes has_note_form (Some s) (h s refl)

note_of-passes : (n : ℕ) (field : List ℕ) → Passes has_note_form (note_of n field)
note_of-passes n [] = ok-passes has_note_form None refl
note_of-passes n (b ∷ rest) = note_at n (read_text is_text (b ∷ rest)) (guard is_text (b ∷ rest))

-- what is read after a part of a row passes, whatever that part is
after_part : {A B : Type 0} {test : B → Bool} {more : A → Result B RowFault}
    (part : Result A RowFault) → ((x : A) → part ≡ Ok x → Passes test (more x))
    → Passes test (part >>= more)
after_part (Ok x) h = h x refl
after_part (Err e) h = err-passes _ e

range_of-passes : (n : ℕ) (fields : List (List ℕ)) → Passes has_form (range_of n fields)
range_of-passes n (first ∷ last ∷ word ∷ remark ∷ []) =
    after_part (ok_or (read_number first) (fault.Row n part.Number))
    (λ lo is_lo. after_part (ok_or (read_number last) (fault.Row n part.Number))
    (λ hi is_hi. after_part (ok_or (read_treatment word) (fault.Row n part.Treatment))
    (λ how is_how. after_part (note_of n remark)
    (λ note is. ok-passes has_form _ ((note_of-passes n remark).passed note is)))))
range_of-passes n other = err-passes _ (fault.Row n part.Columns)

-- ---- files

abbrev have_form : List Range → Bool
have_form ranges = list_all has_form ranges

ranges_from-passes : (n : ℕ) (rows : List (List (List ℕ))) → Passes have_form (ranges_from n rows)
ranges_from-passes n [] = ok-passes have_form [] refl
ranges_from-passes n (row ∷ rows) =
    after_part (range_of n row)
    (λ r is_r. after_part (ranges_from (n + 1) rows)
    (λ rs is_rs. ok-passes have_form (r ∷ rs)
    (rw ((range_of-passes n row).passed r is_r)
    ((ranges_from-passes (n + 1) rows).passed rs is_rs))))

headed : (b : Bool) (rows : List (List (List ℕ)))
    → Passes have_form (cond b (ranges_from 0 rows) (Err fault.Header))
headed true rows = ranges_from-passes 0 rows
headed false rows = err-passes _ fault.Header

ranges_of-passes : (rows : List (List (List ℕ))) → Passes have_form (ranges_of rows)
ranges_of-passes [] = err-passes _ fault.Header
ranges_of-passes (first ∷ rows) = headed (is_header first) rows

file_ranges-passes : (text : List ℕ) → Passes have_form (file_ranges text)
unfolding file_ranges
file_ranges-passes text = ranges_of-passes (text_rows text)

-- ---- tables

abbrev table_at : ℕ → List Range → Table
table_at max ranges = record { max = max; ranges = ranges }

unless_fault-passes : (max : ℕ) (ranges : List Range) (o : Option RangeFault)
    → first_fault max ranges ≡ o → is_below max ≡ true → have_form ranges ≡ true
    → Passes has_table_form (unless_fault o (table_at max ranges))
unless_fault-passes max ranges None e hm hr =
    ok-passes has_table_form (table_at max ranges) (rw (hm, e, hr) refl)
unless_fault-passes max ranges (Some f) e hm hr = err-passes _ _

table_parts : (max : ℕ) (r : Result (List Range) RowFault) → is_below max ≡ true
    → Passes have_form r
    → Passes has_table_form
    (members.◌>>=◌ (or_row_refusal r)
    (λ ranges. unless_fault (first_fault max ranges) (table_at max ranges)))
table_parts max (Ok ranges) hm hr =
    unless_fault-passes max ranges (first_fault max ranges) refl hm (hr.passed ranges refl)
table_parts max (Err e) hm hr = err-passes _ (refusal_of_row e)

pub table_of-passes : (max : ℕ) (body : List ℕ) → is_below max ≡ true
    → Passes has_table_form (table_of max body)
unfolding table_of
table_of-passes max body h = table_parts max (file_ranges body) h (file_ranges-passes body)
