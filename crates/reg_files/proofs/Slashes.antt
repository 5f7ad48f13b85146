-- Paths round their last slash.
use Rattle.std.proofs.Common.{◌≡◌, ◌≢◌, ℕ, suc, ◌<◌, false, eqb, List, [], ◌∷◌, ◌++◌, length, get_or, drop, Option, None, Some, MatchOption, sym, subst, ne_eqb, take-append-drop, arith}
use Rattle.std.proofs.lemmas.Str.Pattern.{NoCharPasses-char, drop_at_char}
use Rattle.std.specs.Borrow.{Bor}
use Rattle.std.specs.Path.{HasNoSlash, slash}
use Rattle.std.specs.Str.{NoCharPasses}
use Rattle.std.specs.Str.Pattern.{RFindsChar, SplitsAroundMatch}

-- no byte of a text is a slash if each is another byte
lacks_slash : (bs : List ℕ) → ((i : ℕ) → i < length bs → get_or bs i 0 ≢ slash) → HasNoSlash bs
lacks_slash [] other = tt
lacks_slash (b ∷ bs) other =
    let here : eqb b slash ≡ false = ne_eqb b slash (other 0 (omega arith)) in
    rw here (lacks_slash bs (λ i less. other (suc i) (omega arith)))

-- nor if no character is a slash
no_slash : (bs : List ℕ) → NoCharPasses (λ c. eqb c slash) bs → HasNoSlash bs
no_slash bs none = lacks_slash bs (λ i less. NoCharPasses-char slash bs i none (omega arith) less)

split_last : (path front back : List ℕ) → SplitsAroundMatch (RFindsChar slash) path front back
    → HasNoSlash back × (path ≡ front ++ slash ∷ back)
split_last path front back (i, j, found, before, after, least, front_length, back_length) =
    let at = drop_at_char slash path i j found.1 (omega arith) in
    let whole = take-append-drop i path in
    (subst HasNoSlash (sym after) (no_slash (drop j path) found.0), cc)

-- a text is parted at its last slash, or has none
pub split_cases : (path : List ℕ) (found : Option (Bor (List ℕ) × Bor (List ℕ)))
    → MatchOption found (RFindsChar slash path None)
    (λ parts. SplitsAroundMatch (RFindsChar slash) path parts.0.now parts.1.now)
    → MatchOption found (HasNoSlash path)
    (λ parts. HasNoSlash parts.1.now × (path ≡ parts.0.now ++ slash ∷ parts.1.now))
split_cases path None none = no_slash path none
split_cases path (Some parts) is = split_last path parts.0.now parts.1.now is
