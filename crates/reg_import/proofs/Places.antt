-- The place of a column in a header is the first at which its word stands.
use Rattle.std.proofs.Common.{◌≡◌, ℕ, zero, suc, ◌<◌, true, false, List, [], ◌∷◌, length, Some, None, refl, arith}
use Rattle.csv.specs.Records.{field_at}
use Rattle.reg_import.specs.Columns.{place_of, stands_at}
use Rattle.reg_import.specs.declared.column.Column.{Column}

-- the word stands at none of the first places
abbrev pub StandsAtNone : List (List ℕ) → Column → ℕ → Type 0
StandsAtNone header column n = (k : ℕ) → k < n → stands_at header k column ≡ false

later : (word : List ℕ) (header : List (List ℕ)) (column : Column) (n : ℕ)
    → StandsAtNone (word ∷ header) column (suc n) → StandsAtNone header column n
unfolding field_at
later word header column n none k h = none (suc k) (omega arith)

pub first_place : (header : List (List ℕ)) (column : Column) (n : ℕ)
    → StandsAtNone header column n → stands_at header n column ≡ true
    → place_of header column ≡ Some n
unfolding field_at
first_place [] column n none here = absurd (cc)
first_place (word ∷ header) column zero none here = rw here refl
first_place (word ∷ header) column (suc n) none here =
    let before = none zero (omega arith) in
    let rest = first_place header column n (later word header column n none) here in
    rw (before, rest) refl

pub no_place : (header : List (List ℕ)) (column : Column)
    → StandsAtNone header column (length header) → place_of header column ≡ None
unfolding field_at
no_place [] column none = refl
no_place (word ∷ header) column none =
    let before = none zero (omega arith) in
    let rest = no_place header column (later word header column (length header) none) in
    rw (before, rest) refl
