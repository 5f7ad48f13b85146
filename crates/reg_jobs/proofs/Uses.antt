-- What one use of a rule leaves in the rows: an argument with one value, or nothing that passes.
use Rattle.std.proofs.Common.{arith, ◌≡◌, ◌∙◌, ◌&&◌, ◌==◌, ℕ, Bool, cond, true, false, refl, sym, ap, ap₂, subst, List, [], ◌∷◌, ◌++◌, length, Some, None, eqb-true}
use Rattle.std.specs.Str.{bytes_eq}
use Rattle.std.proofs.lemmas.Bool.{or_parts}
use Rattle.clap.specs.Facts.{unwrap_or_range}
use Rattle.clap.specs.Faults.{action_fault, repeat_fault, values_fault}
use Rattle.clap.specs.Kinds.{range_kinds}
use Rattle.clap.specs.Walk.{Row, Rule, Text, action_of, at_row, default_rows, has_row, more_values, most_values, reading_by, used_as, values_or_missing, with_values, without}
use Rattle.clap.specs.declared.builder.action.ArgAction.TheVariants.{Help, Set, SetTrue}
use Rattle.clap.specs.declared.error.kind.ErrorKind.TheVariants as kind
use Rattle.clap.specs.declared.parser.matches.ValueSource.TheVariants.{CommandLine, DefaultValue}
use Rattle.reg_jobs.proofs.Walks.{Each, Keeps, KeepsDefault, no_faults}

-- the row of an argument with one value
abbrev pub row_with : Rule → Text → Row
row_with a v = record { id = a.id; values = v ∷ []; count = None; source = Some CommandLine; reading = reading_by a }

-- and the row of an argument with a default
abbrev pub default_row_with : Rule → Text → Row
default_row_with a v = record (row_with a v) { source = Some DefaultValue }

no_values : (n : ℕ) → range_kinds 0 0 n ≡ [] → 0 ≡ n
no_values n none = go (0 == n) refl none
  where
    go : (b : Bool) → (0 == n) ≡ b → cond b [] (kind.WrongNumberOfValues ∷ []) ≡ [] → 0 ≡ n
    go true t e = eqb-true _ _ t
    go false t e = absurd (cc)

one : (n : ℕ) → range_kinds 1 1 n ≡ [] → 1 ≡ n
one n none = go (n == 0) (1 == n) refl none
  where
    go : (a b : Bool) → (1 == n) ≡ b → cond a (kind.InvalidValue ∷ []) (cond b [] (kind.WrongNumberOfValues ∷ [])) ≡ [] → 1 ≡ n
    go true b t e = absurd (cc)
    go false true t e = eqb-true _ _ t
    go false false t e = absurd (cc)

without_none : (id : Text) (rows : List Row) → has_row id rows ≡ false → without id rows ≡ rows
without_none id [] none = refl
without_none id (r ∷ rs) none =
    let parts = or_parts (bytes_eq r.id id) _ none in
    ap (λ b. cond b ([] ++ rs) (r ∷ without id rs)) parts.0 ∙ ap (λ rest. r ∷ rest) (without_none id rs parts.1)

each_added : (P : Row → Type 0) (id : Text) (change : Row → List Row) (x : Row) (rows : List Row) → has_row id rows ≡ false → Each P rows → P x
    → Each P (at_row id change (x ∷ []) rows)
each_added P id change x [] none each new = (new, tt)
each_added P id change x (r ∷ rs) none each new =
    let parts = or_parts (bytes_eq r.id id) _ none in
    subst (λ b. Each P (cond b (change r ++ rs) (r ∷ at_row id change (x ∷ []) rs))) (sym parts.0)
    (each.0, each_added P id change x rs parts.1 each.1 new)

not_repeated : (b : Bool) → cond (b && true) (kind.ArgumentConflict ∷ []) [] ≡ [] → b ≡ false
not_repeated true e = absurd (cc)
not_repeated false e = refl

-- an option or a place that takes one value
pub set_keeps : (P : Row → Type 0) (a : Rule) → action_of a ≡ Set → (unwrap_or_range a.range).start_inclusive ≡ 1 → most_values a ≡ 1
    → ((v : Text) → values_fault a (v ∷ []) ≡ [] → P (row_with a v)) → Keeps P false a
set_keeps P a set least most new values rows none each =
    let parts = no_faults _ _ none in
    by_values values (one (length values) (sym (ap₂ (λ x y. range_kinds x y (length values)) least most) ∙ parts.0)) parts.1
  where
    by_values : (vs : List Text) → 1 ≡ length vs → action_fault (action_of a) false a (values_or_missing a vs) rows ≡ []
        → Each P (used_as (action_of a) a.id (reading_by a) (values_or_missing a vs) rows)
    by_values [] count fault = absurd (omega arith)
    by_values (v ∷ w ∷ vs) count fault = absurd (omega arith)
    by_values (v ∷ []) count fault =
        let faults = no_faults (repeat_fault false a.id rows) (values_fault a (v ∷ [])) (sym (ap (λ x. action_fault x false a (v ∷ []) rows) set) ∙ fault) in
        let first = not_repeated (has_row a.id rows) faults.0 in
        let added = each_added P a.id (more_values CommandLine (v ∷ [])) (row_with a v) rows first each (new v faults.1) in
        subst (λ x. Each P (used_as x a.id (reading_by a) (v ∷ []) rows)) (sym set)
        (subst (λ rs. Each P (with_values a.id (reading_by a) CommandLine (v ∷ []) rs)) (sym (without_none a.id rows first)) added)

-- an option with no value, a use of which is read as this one
pub flag_keeps : (P : Row → Type 0) (a : Rule) (v : Text) → action_of a ≡ SetTrue → (unwrap_or_range a.range).start_inclusive ≡ 0 → most_values a ≡ 0
    → a.missing ≡ v ∷ [] → P (row_with a v) → Keeps P false a
flag_keeps P a v set least most missing new values rows none each =
    let parts = no_faults _ _ none in
    by_values values (no_values (length values) (sym (ap₂ (λ x y. range_kinds x y (length values)) least most) ∙ parts.0)) parts.1
  where
    by_values : (vs : List Text) → 0 ≡ length vs → action_fault (action_of a) false a (values_or_missing a vs) rows ≡ []
        → Each P (used_as (action_of a) a.id (reading_by a) (values_or_missing a vs) rows)
    by_values (w ∷ vs) count fault = absurd (omega arith)
    by_values [] count fault =
        let faults = no_faults (repeat_fault false a.id rows) (values_fault a (v ∷ [])) (sym (ap₂ (λ x m. action_fault x false a m rows) set missing) ∙ fault) in
        let first = not_repeated (has_row a.id rows) faults.0 in
        let added = each_added P a.id (more_values CommandLine (v ∷ [])) (row_with a v) rows first each new in
        let without_first = subst (λ rs. Each P (with_values a.id (reading_by a) CommandLine (v ∷ []) rs)) (sym (without_none a.id rows first)) added in
        let by_set = subst (λ x. Each P (used_as x a.id (reading_by a) (v ∷ []) rows)) (sym set) without_first in
        subst (λ m. Each P (used_as (action_of a) a.id (reading_by a) m rows)) (sym missing) by_set

-- an argument with a default
pub value_keeps : (P : Row → Type 0) (a : Rule) (v : Text) → a.defaults ≡ v ∷ [] → P (default_row_with a v) → KeepsDefault P a
value_keeps P a v defaults new rows each = by_row (has_row a.id rows) refl
  where
    by_row : (b : Bool) → has_row a.id rows ≡ b → Each P (cond b rows (default_rows a.id (reading_by a) a.defaults rows))
    by_row true is = each
    by_row false is = subst (λ d. Each P (default_rows a.id (reading_by a) d rows)) (sym defaults)
        (each_added P a.id (more_values DefaultValue (v ∷ [])) (default_row_with a v) rows is each new)

-- a use of the flag for help never passes
pub help_keeps : (P : Row → Type 0) (again : Bool) (a : Rule) → action_of a ≡ Help → Keeps P again a
help_keeps P again a help values rows none each =
    let parts = no_faults (range_kinds (unwrap_or_range a.range).start_inclusive (most_values a) (length values)) _ none in
    let asks : kind.DisplayHelp ∷ [] ≡ [] = sym (ap (λ x. action_fault x again a (values_or_missing a values) rows) help) ∙ parts.1 in
    absurd (cc)
