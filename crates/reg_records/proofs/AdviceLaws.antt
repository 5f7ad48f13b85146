-- The rows of `advice` keep advice: what is written reads back, and only that reads.
use Rattle.std.proofs.Common.{◌≡◌, [], ◌∷◌, ◌++◌, true, Some, refl, ap, subst, ◌∙◌}
use Rattle.std.proofs.lemmas.Bool.{and_from}
use Rattle.std.proofs.lemmas.Option.{same_Some}
use Rattle.sqlite.specs.Order.{Row, column}
use Rattle.sqlite.specs.declared.types.Value.TheVariants.{Text}
use Rattle.reg_ranges.specs.Texts.{is_text}
use Rattle.reg_core.specs.Advice.{verdict_word}
use Rattle.reg_core.proofs.WordsReadBack.{verdicts_read}
use Rattle.reg_records.specs.Advice.{advice_columns, advice_in, advice_values, is_expert_advice, own_advice_in}
use Rattle.reg_records.specs.Laws.{KeepsRows}
use Rattle.reg_records.specs.Queue.{seat_in}
use Rattle.reg_records.specs.declared.advice.ExpertAdvice.{ExpertAdvice}
use Rattle.reg_records.proofs.ColumnLaws.{both, column-at, column_some, formed_texts, given-at, given_some, keeps_rows, words}
use Rattle.reg_records.proofs.SeatLaws.{seats_kept}

pub advice_kept : KeepsRows advice_columns advice_in advice_values is_expert_advice
advice_kept =
    keeps_rows (λ row form.
    both _ _ form (λ seat text.
    given-at (seats_kept.back row.seat seat) _ _ (
    column-at (words verdicts_read) row.advice.verdict refl _ _ (
    column-at (formed_texts is_text) row.advice.text text _ _ refl))))
    (λ row advice h.
    given_some (seat_in row) _ advice h (λ seat is h.
    column_some (words verdicts_read) (column row 3) _ advice h (λ verdict is3 form3 h.
    column_some (formed_texts is_text) (column row 4) _ advice h (λ text is4 form4 h.
    subst (λ a. (advice_columns row ≡ advice_values a) × (is_expert_advice a ≡ true))
    (same_Some _ _ h) (
      λ i. seats_kept.exact row seat is i ++ is3 i ∷ is4 i ∷ [],
      and_from _ _ (seats_kept.formed row seat is) form4,
    )))))

-- a row that holds an advice holds it in its last columns
pub own_advice_back : (row : Row) (advice : ExpertAdvice) → advice_in row ≡ Some advice
    → own_advice_in (column row 3) (column row 4) ≡ Some (Some advice.advice)
own_advice_back row a is =
    let cells = advice_kept.exact row a is in
    let verdict : column row 3 ≡ Text (verdict_word a.advice.verdict) =
    ap (λ (r : Row). column r 3) cells in
    let text : column row 4 ≡ Text a.advice.text = ap (λ (r : Row). column r 4) cells in
    let form : is_text a.advice.text ≡ true =
    both _ _ (advice_kept.formed row a is) (λ names form. form) in
    (λ i. own_advice_in (verdict i) (text i))
    ∙ column-at (words verdicts_read) a.advice.verdict refl _ _ (
    column-at (formed_texts is_text) a.advice.text form _ _ refl)
