-- What stands for a text on a page is no markup, and reads back as the text.
use Rattle.std.proofs.Common.{◌≡◌, ℕ, true, false, ◌==◌, not, List, [], ◌∷◌, ◌++◌, Some, refl, sym, subst, ap, ◌∙◌, inl, inr}
use Rattle.std.specs.List.{list_all}
use Rattle.std.proofs.lemmas.Bool.Decides.{eqb_tells}
use Rattle.std.proofs.lemmas.List.Folds.{list_all-append}
use Rattle.reg_pages.specs.Escape.{escaped, escaped_byte, followed, is_markup, unescaped}
use Rattle.reg_pages.proofs.EscapedUtf8.{IsUtf8-escaped}

-- a byte that stands for itself
record IsPlain (b : ℕ) : Type 0 where
  amp : (b == 38) ≡ false
  lt : (b == 60) ≡ false
  gt : (b == 62) ≡ false
  quot : (b == 34) ≡ false
  apos : (b == 39) ≡ false

-- a byte is one of the five that do not stand for themselves, or it does
by_byte : (P : ℕ → Type 0) → P 38 → P 60 → P 62 → P 34 → P 39 → ((b : ℕ) → IsPlain b → P b)
    → (b : ℕ) → P b
by_byte P amp lt gt quot apos plain b =
    elim (eqb_tells b 38) [
      | inl h ↦ subst P (sym h.1) amp
      | inr n38 ↦ elim (eqb_tells b 60) [
        | inl h ↦ subst P (sym h.1) lt
        | inr n60 ↦ elim (eqb_tells b 62) [
          | inl h ↦ subst P (sym h.1) gt
          | inr n62 ↦ elim (eqb_tells b 34) [
            | inl h ↦ subst P (sym h.1) quot
            | inr n34 ↦ elim (eqb_tells b 39) [
              | inl h ↦ subst P (sym h.1) apos
              | inr n39 ↦ plain b
                  (record { amp = n38.0; lt = n60.0; gt = n62.0; quot = n34.0; apos = n39.0 })
            ]
          ]
        ]
      ]
    ]

-- what stands for a byte reads as that byte, whatever follows
unescaped-byte : (b : ℕ) (more : List ℕ)
    → unescaped (escaped_byte b ++ more) ≡ followed b (unescaped more)
unescaped-byte b more =
    by_byte (λ x. unescaped (escaped_byte x ++ more) ≡ followed x (unescaped more))
    refl refl refl refl refl
    (λ x p. simp (p.amp, p.lt, p.gt, p.quot, p.apos))
    b

pub unescaped-escaped : (text : List ℕ) → unescaped (escaped text) ≡ Some text
unescaped-escaped [] = refl
unescaped-escaped (b ∷ text) =
    unescaped-byte b (escaped text) ∙ ap (followed b) (unescaped-escaped text)

no_markup-byte : (b : ℕ) → list_all (λ x. not (is_markup x)) (escaped_byte b) ≡ true
no_markup-byte b =
    by_byte (λ x. list_all (λ y. not (is_markup y)) (escaped_byte x) ≡ true)
    refl refl refl refl refl
    (λ x p. simp (p.amp, p.lt, p.gt, p.quot, p.apos))
    b

pub no_markup-escaped : (text : List ℕ) → list_all (λ x. not (is_markup x)) (escaped text) ≡ true
no_markup-escaped [] = refl
no_markup-escaped (b ∷ text) =
    rw (list_all-append (λ x. not (is_markup x)) (escaped_byte b) (escaped text))
    (rw (no_markup-byte b) (no_markup-escaped text))

pub ruleset inert = (no_markup-escaped, unescaped-escaped, IsUtf8-escaped)
