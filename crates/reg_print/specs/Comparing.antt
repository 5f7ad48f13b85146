-- Texts that are read from the front on.
use Rattle.std.specs.Prelude.{◌≡◌, ◌≢◌, ◌==◌, ℕ, List, ◌++◌, length, take, drop, position, bytes_eq, Option, Some, None, option_map, MatchOption, if◌then◌else◌}
use denote.Ref.{Bor}

-- what is left of a text behind this front, where it begins with it
abbrev pub behind : List ℕ → List ℕ → Option (List ℕ)
behind front text =
    (if bytes_eq (take (length front) text) front then Some (drop (length front) text) else None)

-- What is left of a text behind this front; none just where the text does not begin with it.
abbrev pub Leaves : List ℕ → List ℕ → Option (Bor (List ℕ)) → Type 0
Leaves front text left =
    MatchOption left ((rest : List ℕ) → text ≢ front ++ rest) (λ more. text ≡ front ++ more.now)

-- a text before the first such byte, and from it on
abbrev pub until : ℕ → List ℕ → Option (List ℕ × List ℕ)
until byte text = option_map (λ end. (take end text, drop end text)) (position (λ b. b == byte) text)
