-- Advice as rows of the table `advice`.
use Rattle.std.specs.Prelude.{if◌then◌else◌, Bool, ◌&&◌, [], ◌∷◌, ◌++◌, Option, Some, None}
use Rattle.sqlite.specs.Order.{Row, column}
use Rattle.sqlite.specs.declared.types.Value.{Value}
use Rattle.sqlite.specs.declared.types.Value.TheVariants.{Text}
use Rattle.reg_ranges.specs.Texts.{is_text}
use Rattle.reg_core.specs.Advice.{has_advice_form, read_verdict, verdict_word}
use Rattle.reg_core.specs.declared.advice.Advice.{Advice}
use Rattle.reg_records.specs.Columns.{formed_in, given, is_null, read_in}
use Rattle.reg_records.specs.Queue.{is_seat, seat_columns, seat_in, seat_values}
use Rattle.reg_records.specs.declared.advice.ExpertAdvice.{ExpertAdvice}

-- the columns that are selected: account, reference, expert, verdict, text
abbrev pub advice_columns : Row → Row
advice_columns row = seat_columns row ++ column row 3 ∷ column row 4 ∷ []

-- the advice that a row holds, where each column has its form
abbrev pub advice_in : Row → Option ExpertAdvice
advice_in row =
    given (seat_in row) (λ seat.
    given (read_in read_verdict (column row 3)) (λ verdict.
    given (formed_in is_text (column row 4)) (λ text.
    Some (record { seat = seat; advice = record { verdict = verdict; text = text } }))))

-- the advice that these two columns hold: none where both are NULL, and else a verdict and a text,
-- each of its form
abbrev pub own_advice_in : Value → Value → Option (Option Advice)
own_advice_in verdict text =
    if is_null verdict && is_null text then Some None else
    given (read_in read_verdict verdict) (λ verdict.
    given (formed_in is_text text) (λ text.
    Some (Some (record { verdict = verdict; text = text }))))

-- the row that is written for an advice
abbrev pub advice_values : ExpertAdvice → Row
advice_values row =
    seat_values row.seat ++ Text (verdict_word row.advice.verdict) ∷ Text row.advice.text ∷ []

-- its seat and its advice have their forms
abbrev pub is_expert_advice : ExpertAdvice → Bool
is_expert_advice row = is_seat row.seat && has_advice_form row.advice
