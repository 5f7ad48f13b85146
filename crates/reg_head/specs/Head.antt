-- The head of a request (RFC 9112 sections 2 to 5), within the limits.
use Rattle.std.specs.Prelude.{◌≤◌, ◌<◌, ℕ, List, [], ◌∷◌, length, map, if◌then◌else◌}
use Rattle.std.specs.Str.{str_eq_ignore_ascii_case}
use Rattle.httparse.specs.Grammar.{RequestHead, print_request, ReadsRequest, MayBecomeRequest}
use Rattle.httparse.specs.Spans.{name_and_value}

-- the most bytes of a head, from the first byte read to its empty line
abbrev pub most_bytes : ℕ
most_bytes = 8192

-- the most fields of a head
abbrev pub most_fields : ℕ
most_fields = 32

-- the bytes are this head, which is within the limits, and then the rest
pub record HasHead (bytes : List ℕ) (head : RequestHead) (rest : List ℕ) : Type 0 where
  pub reads : ReadsRequest bytes head rest
  pub short : length (print_request head) ≤ most_bytes
  pub few : length head.fields ≤ most_fields

-- the bytes do not begin with a head within the limits
abbrev pub HasNoHead : List ℕ → Type 0
HasNoHead bytes = (head : RequestHead) (rest : List ℕ) → ¬ (HasHead bytes head rest)

-- a head may still come: more bytes make these one, or they end in its target; and they are fewer
-- than the most of a head
abbrev pub MayBecomeHead : List ℕ → Type 0
MayBecomeHead bytes = MayBecomeRequest bytes × (length bytes < most_bytes)

-- the values of the fields with this name, which is compared without case (RFC 9110 section 5.1),
-- without the spaces and tabs around them
abbrev pub named : List ℕ → List (List ℕ × List ℕ) → List (List ℕ)
named name [] = []
named name (p ∷ ps) =
    (if str_eq_ignore_ascii_case p.0 name then p.1 ∷ named name ps else named name ps)

-- the fields of a head, each as its name and its value
abbrev pub fields_of : RequestHead → List (List ℕ × List ℕ)
fields_of head = map name_and_value head.fields
