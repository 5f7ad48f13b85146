-- The values that are written for a request, column by column.
use Rattle.std.proofs.Common.{◌≡◌, ℕ, zero, suc, ◌+◌, List, [], ◌∷◌, ◌++◌, map, refl, ap, ap₂, ◌∙◌}
use Rattle.std.specs.Prelude.{slice_index_or}
use Rattle.std.specs.List.{range_with_len}
use Rattle.sqlite.specs.Order.{Row, column}
use Rattle.sqlite.specs.Value.{owned}
use Rattle.sqlite.specs.Values.{bound, bound_value}
use Rattle.sqlite.specs.declared.types.Value.{Value}
use Rattle.sqlite.specs.declared.types.ValueRef.{ValueRef}
use Rattle.sqlite.specs.declared.types.ValueRef.TheVariants.{Null}
use Rattle.reg_core.specs.declared.ask.Ask.{Ask}
use Rattle.reg_core.specs.declared.ask.Ask.TheVariants.{Code}
use Rattle.reg_records.specs.Requests.Reading.{columns}
use Rattle.reg_records.specs.Requests.Values.{asked_values, block_wanted_values, early_shown_values, shown_values, wanted_values}

-- what a parameter is bound to
abbrev pub bound_at : List ValueRef → ℕ → Value
bound_at xs at = bound_value (owned (slice_index_or xs at Null))

bound-column : (xs : List ValueRef) (at : ℕ) → bound_at xs at ≡ column (bound xs) at
bound-column [] at = refl
bound-column (x ∷ xs) zero = refl
bound-column (x ∷ xs) (suc at) = bound-column xs at

bound-columns : (xs : List ValueRef) (count from : ℕ)
    → ◌≡◌ {A = Row} (map (bound_at xs) (range_with_len from count)) (columns (bound xs) from count)
bound-columns xs zero from = refl
bound-columns xs (suc count) from =
    ap₂ (λ v vs. v ∷ vs) (bound-column xs from) (bound-columns xs count (from + 1))

-- parameters are bound, one by one, to the values to which they are bound together
pub bound-each : (xs : List ValueRef) (count : ℕ) (values : Row) → bound xs ≡ values
    → ◌≡◌ {A = Row} (map (bound_at xs) (range_with_len 0 count)) (columns values 0 count)
bound-each xs count values h = bound-columns xs count 0 ∙ ap (λ row. columns row 0 count) h

pub asked_columns : (ask : Ask)
    → columns (wanted_values ask) 0 4 ++ columns (shown_values ask) 0 6
    ++ columns (early_shown_values ask) 0 6 ++ columns (block_wanted_values ask) 0 3
    ≡ asked_values ask
asked_columns (Code a) = refl
asked_columns _ = refl
