-- What a look at the fields found, for private clauses.
use Rattle.std.specs.Prelude.{◌≡◌, ◌≤◌, ℕ, List, [], ◌∷◌, length, Option, None, Some, option_and_then}
use Rattle.httparse.specs.Spans.{IsWithin, span_bytes}
use Rattle.httparse.specs.declared.spans.Span.{Span}
use Rattle.reg_head.specs.Fields.{bearer}
use Rattle.reg_head.specs.declared.fields.Found.{Found}
use Rattle.reg_head.specs.declared.fields.Found.TheVariants as found

-- how many values there are: none, this one, or more
abbrev pub IsFieldFound : List ℕ → List (List ℕ) → Found → Type 0
IsFieldFound buf values found.None = values ≡ []
IsFieldFound buf values (found.One span) =
    IsWithin (length buf) span × (values ≡ span_bytes buf span ∷ [])
IsFieldFound buf values found.Many = 2 ≤ length values

-- the span lies among the bytes, if there is one
abbrev pub IsWithinIf : ℕ → Option Span → Type 0
IsWithinIf n None = Unit {0}
IsWithinIf n (Some span) = IsWithin n span

-- the token in the bytes of the span, if there is one
abbrev pub token_at : List ℕ → Option Span → Option (List ℕ)
token_at buf span = option_and_then (λ s. bearer (span_bytes buf s)) span
