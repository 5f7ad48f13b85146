-- Checks in turn, each of which refuses by the first refusal of its lines that applies.
use Rattle.std.proofs.Common.{◌≡◌, ◌<◌, ◌≤◌, ℕ, List, inl, inr, refl, sym, ap, subst, ◌∙◌, arith}
use Rattle.std.specs.Prelude.{Result, Ok, Err}
use Rattle.reg_core.proofs.Common.{cases_lt, Applies, line_of}
use Rattle.reg_laws.proofs.Types.{Ask, Refusal}
use Rattle.reg_core.specs.Allowance.{Ground, ◌>>=◌}
use Rattle.reg_core.specs.declared.refusal.Refusal.TheVariants as no

module _ (rows : Ground) (account : List ℕ) (ask : Ask) where
  -- no refusal that applies stands in a line before this one
  abbrev pub Clear : ℕ → Type 0
  Clear n = (other : Refusal) → Applies rows account ask other → n ≤ line_of other

  -- a check of what the lines from n on to m say, where those before are clear: it refuses by the
  -- first that applies, or leaves these lines clear too
  pub record IsFair {X : Type 0} (n m : ℕ) (check : Result X Refusal) : Type 0 where
    pub refused : (refusal : Refusal) → check ≡ Err refusal
        → Applies rows account ask refusal × (Clear n → Clear (line_of refusal))
    pub passed : (x : X) → check ≡ Ok x → Clear n → Clear m

  pub refuses : {X : Type 0} (n m : ℕ) (r : Refusal) → Applies rows account ask r
      → (Clear n → Clear (line_of r)) → (check : Result X Refusal) → check ≡ Err r
      → IsFair n m check
  refuses n m r applies clear check is = record {
    refused = λ refusal h.
        let same : r ≡ refusal = cc in
        subst (λ s. Applies rows account ask s × (Clear n → Clear (line_of s))) same
        (applies, clear);
    passed = λ x h. let both = sym is ∙ h in absurd (cc);
  }

  pub passes : {X : Type 0} (n m : ℕ) (x : X) → (Clear n → Clear m) → (check : Result X Refusal)
      → check ≡ Ok x → IsFair n m check
  passes n m x clear check is = record {
    refused = λ refusal h. let both = sym is ∙ h in absurd (cc);
    passed = λ y h. clear;
  }

  pub in_turn : {X Y : Type 0} (n m k : ℕ) (check : Result X Refusal) (f : X → Result Y Refusal)
      → IsFair n m check → ((x : X) → check ≡ Ok x → IsFair m k (f x)) → IsFair n k (check >>= f)
  in_turn n m k (Err r) f fair more = record {
    refused = λ refusal h. let same : r ≡ refusal = cc in fair.refused refusal (ap Err same);
    passed = λ y h. absurd (cc);
  }
  in_turn n m k (Ok x) f fair more = record {
    refused = λ refusal h.
        let after = (more x refl).refused refusal h in
        (after.0, λ clear. after.1 (fair.passed x refl clear));
    passed = λ y h clear. (more x refl).passed y h (fair.passed x refl clear);
  }

  -- where nothing applies of the lines from n on to m
  pub clear_on : (n m : ℕ)
      → ((other : Refusal) → Applies rows account ask other → n ≤ line_of other
      → line_of other < m → ⊥)
      → Clear n → Clear m
  clear_on n m none clear other applies =
      elim (cases_lt (line_of other) m) [
        | inl below ↦ absurd (none other applies (clear other applies) below)
        | inr after ↦ after
      ]

  -- the lines before the registry's are of no ask
  pub outset : Clear 7
  outset no.Clock applies = absurd applies
  outset other applies = grind arith

  -- and so are those after the last of an allowance
  pub over : Clear 18 → (other : Refusal) → ¬ (Applies rows account ask other)
  over clear no.Advice applies = applies
  over clear other applies = let late = clear other applies in grind arith
