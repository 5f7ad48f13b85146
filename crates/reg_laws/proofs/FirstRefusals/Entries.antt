-- New entries, and entries that stand, are checked in turn.
use Rattle.std.proofs.Common.{◌≡◌, ◌<◌, ◌≤◌, ℕ, Bool, true, false, not, ◌&&◌, List, refl, sym, ap, ◌∙◌, arith}
use Rattle.std.specs.Prelude.{Option, Some, None, Ok, Err, is_some, if◌then◌else◌}
use Rattle.reg_core.proofs.Common.{bytes_eq-Decides, same_text, renewable, settleable, Table, Policy}
use Rattle.reg_core.proofs.Common.{Ground, or_refusal, value_for, own_entry, may_renew, may_settle}
use Rattle.reg_laws.proofs.Types.{Ask}
use Rattle.reg_laws.proofs.Types.{Want, Registration, Refusal}
use Rattle.reg_early.specs.declared.term.RenewFault.TheVariants as renew_fault
use Rattle.reg_early.specs.declared.term.SettleFault.TheVariants as settle_fault
use Rattle.reg_core.specs.FirstRefusals.{IsForEntry, IsPlainRenewal, IsForValue, IsExhausted, Applies, line_of}
use Rattle.reg_core.specs.declared.ask.Want.TheVariants.{Value, Least}
use Rattle.reg_core.specs.declared.refusal.Refusal.TheVariants as no
use Rattle.reg_laws.proofs.FirstRefusals.Turns.{Clear, IsFair, refuses, passes, clear_on}

module _ (rows : Ground) (account : List ℕ) (ask : Ask) (table : Table)
    (no_entry : ¬ (IsForEntry ask)) (no_renewal : ¬ (IsPlainRenewal ask)) where
  -- nothing is asked of an entry that stands
  new : (m : ℕ) → 16 ≤ m → ((other : Refusal) → Applies rows account ask other
      → 16 ≤ line_of other → line_of other < m → ⊥)
      → Clear rows account ask 12 → Clear rows account ask m
  new m late none clear = clear_on rows account ask 16 m none (clear_on rows account ask 12 16 old clear)
    where
      old : (other : Refusal) → Applies rows account ask other → 12 ≤ line_of other
          → line_of other < 16 → ⊥
      old no.Entry applies low high = no_entry applies.0
      old other applies low high = grind (arith, no_entry, no_renewal)

  pub value_check : (want : Want) → ((v : ℕ) → want ≡ Value v → IsForValue ask)
      → (IsForValue ask → (v : ℕ) × (want ≡ Value v))
      → ((policy : Policy) → want ≡ Least policy → rows.least ≡ None → IsExhausted rows ask)
      → (IsExhausted rows ask → (policy : Policy) × (want ≡ Least policy) × (rows.least ≡ None))
      → IsFair rows account ask 12 18 (value_for rows table want)
  value_check (Value v) to_value of_value to_least of_least = by (is_some rows.entry) refl
    where
      none : is_some rows.entry ≡ false → (other : Refusal) → Applies rows account ask other
          → 16 ≤ line_of other → line_of other < 18 → ⊥
      none free no.Taken applies low high = let there = applies.1 in absurd (cc)
      none free no.Exhausted applies low high =
          let is = (of_least applies).1 in absurd (cc)
      none free other applies low high = omega arith

      by : (b : Bool) → is_some rows.entry ≡ b
          → IsFair rows account ask 12 18 (if b then Err no.Taken else Ok v)
      by true there =
          refuses rows account ask 12 18 no.Taken (to_value v refl, there)
          (new 16 (omega arith) (λ other applies low high. omega arith)) _ refl
      by false free = passes rows account ask 12 18 v (new 18 (omega arith) (none free)) _ refl
  value_check (Least policy) to_value of_value to_least of_least = by rows.least refl
    where
      unnamed : (m : ℕ) → m ≤ 17 → (other : Refusal) → Applies rows account ask other
          → 16 ≤ line_of other → line_of other < m → ⊥
      unnamed m below no.Taken applies low high =
          let is = (of_value applies.0).1 in absurd (cc)
      unnamed m below other applies low high = omega arith

      left : (v : ℕ) → rows.least ≡ Some v → (other : Refusal) → Applies rows account ask other
          → 16 ≤ line_of other → line_of other < 18 → ⊥
      left v is no.Taken applies low high = let its = (of_value applies.0).1 in absurd (cc)
      left v is no.Exhausted applies low high =
          let gone = (of_least applies).2 in absurd (cc)
      left v is other applies low high = omega arith

      by : (o : Option ℕ) → rows.least ≡ o
          → IsFair rows account ask 12 18 (or_refusal no.Exhausted o)
      by None gone =
          refuses rows account ask 12 18 no.Exhausted (to_least policy refl gone)
          (new 17 (omega arith) (unnamed 17 (omega arith))) _ refl
      by (Some v) is = passes rows account ask 12 18 v (new 18 (omega arith) (left v is)) _ refl

-- ---- Entries that stand

module _ (rows : Ground) (account : List ℕ) (ask : Ask) (its : IsForEntry ask) where
  pub own_check : IsFair rows account ask 12 13 (own_entry account rows.entry)
  own_check = by rows.entry refl
    where
      foreign : (a : Registration) → rows.entry ≡ Some a → same_text a.assignee account ≡ false
          → (b : Registration) → rows.entry ≡ Some b → ¬ (b.assignee ≡ account)
      foreign a is other b at own =
          let same : a ≡ b = cc in
          let mine = (bytes_eq-Decides a.assignee account).1
          (ap (λ (r : Registration). r.assignee) same ∙ own) in absurd (cc)

      none : (a : Registration) → rows.entry ≡ Some a → same_text a.assignee account ≡ true
          → (other : Refusal) → Applies rows account ask other → 12 ≤ line_of other
          → line_of other < 13 → ⊥
      none a is own no.Entry applies low high =
          applies.1 a is ((bytes_eq-Decides a.assignee account).0 own)
      none a is own other applies low high = omega arith

      found : (a : Registration) → rows.entry ≡ Some a → (b : Bool)
          → same_text a.assignee account ≡ b
          → IsFair rows account ask 12 13 (if b then Ok a else Err no.Entry)
      found a is true own =
          passes rows account ask 12 13 a (clear_on rows account ask 12 13 (none a is own)) _ refl
      found a is false other =
          refuses rows account ask 12 13 no.Entry (its, foreign a is other) (λ clear. clear) _ refl

      by : (o : Option Registration) → rows.entry ≡ o
          → IsFair rows account ask 12 13 (own_entry account o)
      by None gone =
          refuses rows account ask 12 13 no.Entry
          (its, λ a is own. let both = sym gone ∙ is in absurd (cc)) (λ clear. clear) _ refl
      by (Some a) is = found a is (same_text a.assignee account) refl

  module _ (a : Registration) (is : rows.entry ≡ Some a) (no_value : ¬ (IsForValue ask))
      (no_least : ¬ (IsExhausted rows ask)) where
    -- another entry that stands there is this one
    one : (b : Registration) → rows.entry ≡ Some b → a ≡ b
    one b at = let both = sym is ∙ at in cc

    -- it can be renewed or settled
    may : (expiry : ℕ) → a.term.expires ≡ Some expiry
        → (IsPlainRenewal ask → a.term.renewed ≡ false) → (other : Refusal)
        → Applies rows account ask other → 13 ≤ line_of other → line_of other < 18 → ⊥
    may expiry at fresh no.Permanent applies low high =
        let same = one applies.1 applies.2 in
        let none = ap (λ (r : Registration). r.term.expires) same ∙ applies.3 in absurd (cc)
    may expiry at fresh no.Renewed applies low high =
        let same = one applies.1 applies.2 in
        let again = ap (λ (r : Registration). r.term.renewed) same ∙ applies.3 in
        let first = fresh applies.0 in absurd (cc)
    may expiry at fresh other applies low high = grind (arith, no_value, no_least)

    expires_there : (expiry : ℕ) → a.term.expires ≡ Some expiry → (other : Refusal)
        → Applies rows account ask other → 13 ≤ line_of other → line_of other < 14 → ⊥
    expires_there expiry at no.Permanent applies low high =
        let same = one applies.1 applies.2 in
        let none = ap (λ (r : Registration). r.term.expires) same ∙ applies.3 in absurd (cc)
    expires_there expiry at other applies low high = omega arith

    pub renewal_check : (iesg : Option (List ℕ)) → (iesg ≡ None → IsPlainRenewal ask)
        → (IsPlainRenewal ask → iesg ≡ None)
        → IsFair rows account ask 13 18 (may_renew (renewable a.term (is_some iesg)))
    renewal_check iesg to_plain of_plain = by a.term.expires a.term.renewed iesg refl refl refl
      where
        by : (expires : Option ℕ) (renewed : Bool) (minute : Option (List ℕ))
            → a.term.expires ≡ expires → a.term.renewed ≡ renewed → iesg ≡ minute
            → IsFair rows account ask 13 18 (may_renew (if is_some expires
            then (if renewed && not (is_some minute) then Err renew_fault.Renewed else Ok tt)
            else Err renew_fault.Permanent))
        by None renewed minute at t is_minute =
            refuses rows account ask 13 18 no.Permanent (its, a, is, at) (λ clear. clear) _ refl
        by (Some expiry) true None at t is_minute =
            refuses rows account ask 13 18 no.Renewed (to_plain is_minute, a, is, t)
            (clear_on rows account ask 13 14 (expires_there expiry at)) _ refl
        by (Some expiry) true (Some minute) at t is_minute =
            passes rows account ask 13 18 tt
            (clear_on rows account ask 13 18
            (may expiry at (λ h. let none = of_plain h in absurd (cc)))) _ refl
        by (Some expiry) false minute at t is_minute =
            passes rows account ask 13 18 tt
            (clear_on rows account ask 13 18 (may expiry at (λ h. t))) _ refl

    pub settlement_check : ¬ (IsPlainRenewal ask)
        → IsFair rows account ask 13 18 (may_settle (settleable a.term))
    settlement_check no_renewal = by a.term.expires refl
      where
        by : (expires : Option ℕ) → a.term.expires ≡ expires
            → IsFair rows account ask 13 18
            (may_settle (if is_some expires then Ok tt else Err settle_fault.Permanent))
        by None at =
            refuses rows account ask 13 18 no.Permanent (its, a, is, at) (λ clear. clear) _ refl
        by (Some expiry) at =
            passes rows account ask 13 18 tt
            (clear_on rows account ask 13 18 (may expiry at (λ h. absurd (no_renewal h)))) _ refl
