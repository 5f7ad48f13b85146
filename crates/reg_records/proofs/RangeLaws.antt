-- The rows of `ranges` keep ranges: what is written reads back, and only that reads.
use Rattle.std.proofs.Common.{◌≡◌, ℕ, true, List, [], ◌∷◌, Option, Some, None, refl, subst}
use Rattle.std.proofs.lemmas.Option.{none-some, same_Some}
use Rattle.sqlite.specs.Order.{column}
use Rattle.reg_ranges.specs.Forms.{is_none_or}
use Rattle.reg_ranges.specs.Texts.{is_text, read_text}
use Rattle.reg_ranges.proofs.WordsReadBack.{treatments_read}
use Rattle.reg_core.specs.Names.{is_name}
use Rattle.reg_records.specs.Columns.{is_number}
use Rattle.reg_records.specs.Laws.{KeepsRows}
use Rattle.reg_records.specs.Ranges.{is_registry_range, note_text, range_columns, range_in, range_values, read_note}
use Rattle.reg_records.proofs.ColumnLaws.{ReadsTexts, both, column-at, column_some, formed_texts, keeps_rows, let_through, map_some, numbers, texts, words}

-- ---- Notes

note_back : (note : Option (List ℕ)) → is_none_or is_text note ≡ true
    → read_note (note_text note) ≡ Some note
note_back None form = refl
note_back (Some []) form = absurd (cc)
note_back (Some (byte ∷ rest)) form = rw form refl

note_read : (s : List ℕ) (note : Option (List ℕ)) → read_note s ≡ Some note
    → (s ≡ note_text note) × (is_none_or is_text note ≡ true)
note_read [] None h = (refl, refl)
note_read [] (Some t) h = absurd (none-some t (same_Some None (Some t) h))
note_read (byte ∷ rest) note h =
    let s : List ℕ = byte ∷ rest in
    map_some Some (read_text is_text s) note h (λ t is same.
    let test = let_through (is_text s) s t is in
    subst (λ note. (s ≡ note_text note) × (is_none_or is_text note ≡ true)) same
    (test.1, rw (← test.1) test.0))

notes : ReadsTexts read_note note_text (is_none_or is_text)
notes = record {
  back = note_back;
  exact = λ s note h. (note_read s note h).0;
  formed = λ s note h. (note_read s note h).1;
}

-- ---- Ranges

pub ranges_kept : KeepsRows range_columns range_in range_values is_registry_range
ranges_kept =
    keeps_rows (λ row form.
    both _ _ form (λ form note. both _ _ form (λ form hi. both _ _ form (λ registry lo.
    column-at (formed_texts is_name) row.registry registry _ _ (
    column-at (numbers is_number) row.range.lo lo _ _ (
    column-at (numbers is_number) row.range.hi hi _ _ (
    column-at (words treatments_read) row.range.treatment refl _ _ (
    column-at (texts notes) row.range.note note _ _ refl))))))))
    (λ row range h.
    column_some (formed_texts is_name) (column row 0) _ range h (λ registry is0 form0 h.
    column_some (numbers is_number) (column row 1) _ range h (λ lo is1 form1 h.
    column_some (numbers is_number) (column row 2) _ range h (λ hi is2 form2 h.
    column_some (words treatments_read) (column row 3) _ range h (λ treatment is3 form3 h.
    column_some (texts notes) (column row 4) _ range h (λ note is4 form4 h.
    subst (λ r. (range_columns row ≡ range_values r) × (is_registry_range r ≡ true))
    (same_Some _ _ h)
    (rw (is0, is1, is2, is3, is4) refl, rw (form0, form1, form2, form4) refl)))))))
