-- What advice is, and whether a request was advised.
use Rattle.std.specs.Prelude.{ℕ, Bool, true, false, ◌&&◌, bytes_eq, codes, List, [], ◌∷◌, Option, Some, None}
use Rattle.std.specs.List.{list_any}
use Rattle.reg_maps.specs.Maps.{same_text}
use Rattle.reg_ranges.specs.Texts.{is_text}
use Rattle.reg_ranges.specs.Words.{read_among}
use Rattle.reg_core.specs.declared.advice.Advice.{Advice}
use Rattle.reg_core.specs.declared.advice.Opinion.{Opinion}
use Rattle.reg_core.specs.declared.advice.Verdict.{Verdict}
use Rattle.reg_core.specs.declared.advice.Verdict.TheVariants.{For, Against}

-- ---- Words and forms

-- the verdicts; their words, and the verdict that a word reads to
abbrev pub verdicts : List Verdict
verdicts = For ∷ Against ∷ []

abbrev pub verdict_word : Verdict → List ℕ
verdict_word For = codes "for"
verdict_word Against = codes "against"

abbrev pub read_verdict : List ℕ → Option Verdict
read_verdict s = read_among verdicts verdict_word s

abbrev pub has_advice_form : Advice → Bool
has_advice_form advice = is_text advice.text

-- ---- Sameness

-- the two verdicts are the same
abbrev pub same_verdict : Verdict → Verdict → Bool
same_verdict For For = true
same_verdict Against Against = true
same_verdict For Against = false
same_verdict Against For = false

-- the two advices have the same verdict and the same text
abbrev pub same_advice : Advice → Advice → Bool
same_advice a b = same_verdict a.verdict b.verdict && bytes_eq a.text b.text

-- this advice was given already
abbrev pub is_given : Option Advice → Advice → Bool
is_given None advice = false
is_given (Some old) advice = same_advice old advice

-- ---- Whether a request was advised

-- the account is one of these
abbrev pub is_among : List ℕ → List (List ℕ) → Bool
is_among account accounts = list_any (λ other. same_text other account) accounts

-- the opinion is for the request, and of one of these experts
abbrev pub is_favourable : List (List ℕ) → Opinion → Bool
is_favourable experts opinion =
    same_verdict opinion.advice.verdict For && is_among opinion.expert experts

-- one of a request's experts is for it, among all advice on it
abbrev pub is_advised : List (List ℕ) → List Opinion → Bool
is_advised experts opinions = list_any (λ opinion. is_favourable experts opinion) opinions
