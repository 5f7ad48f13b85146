-- Of the refusals that apply to an ask the first is answered.
use Rattle.std.proofs.Common.{◌≡◌, ◌<◌, ◌≤◌, ℕ, List, refl, sym, ◌∙◌, arith}
use Rattle.std.specs.Prelude.{Option, Some, None, Result, is_some}
use Rattle.reg_core.proofs.Common.{early_unmet, renewable, settleable, first_item, unmet, Table, Policy}
use Rattle.reg_core.proofs.Common.{Allowance, SizedPrefix, was_some, own_is}
use Rattle.reg_laws.proofs.Types.{Ask, Want, Refusal}
use Rattle.reg_core.specs.Allowance.{Ground, ◌>>=◌, or_refusal, policy_for, is_met, is_met_early, value_for, own_entry, may_renew, may_settle, allowance_on}
use Rattle.reg_core.specs.FirstRefusals.{want_of, Decides, UnderPolicy, IsAbove, IsShut, IsNotEarly, Lacks, Applies, line_of, FirstRefusalsAreAnswered}
use Rattle.reg_core.specs.declared.ask.Ask.TheVariants.{Code, Early, Renew, Permanent, Block}
use Rattle.reg_core.specs.declared.ask.Want.TheVariants.{Value}
use Rattle.reg_core.specs.declared.refusal.Refusal.TheVariants as no
use Rattle.reg_laws.proofs.FirstRefusals.Turns.{IsFair, refuses, passes, in_turn, clear_on, outset, over}
use Rattle.reg_laws.proofs.FirstRefusals.Policies.{table_check, policy_found, policy_check, evidence_check, early_check, not_eligible, first_not_eligible, of_none}
use Rattle.reg_laws.proofs.FirstRefusals.Entries.{value_check, own_check, renewal_check, settlement_check}
pub mod Turns
pub mod Policies
pub mod Entries

never : ¬ ⊥
never h = h

module _ (rows : Ground) (account : List ℕ) where
  -- an ask for a value of a registry goes by the policy that decides
  by_policy : (ask : Ask) (want : Want) → want_of ask ≡ Some want
      → (more : Table → Policy → Result Allowance Refusal)
      → ((table : Table) (policy : Policy) → rows.table ≡ Some table → Decides table want policy
      → IsFair rows account ask 10 18 (more table policy))
      → IsFair rows account ask 7 18
      (or_refusal no.Registry rows.table
      >>= (λ (table : Table). policy_for table want >>= (λ (policy : Policy). more table policy)))
  by_policy ask want wants more each =
      in_turn rows account ask 7 8 18 (or_refusal no.Registry rows.table) _
      (table_check rows account ask want wants)
      (λ table found.
      let there = was_some rows.table no.Registry table found in
      in_turn rows account ask 8 10 18 (policy_for table want) _
      (policy_check rows account ask want table wants there)
      (λ policy by. each table policy there (policy_found table want policy by).0))

  fair : (ask : Ask) → IsFair rows account ask 7 18 (allowance_on rows account ask)
  fair (Code ask) =
      by_policy (Code ask) ask.want refl _ (λ table policy there decides.
      in_turn rows account (Code ask) 10 12 18 (is_met (first_item (unmet policy ask.evidence))) _
      (evidence_check rows account (Code ask) ask.want table refl there policy decides
      (unmet policy ask.evidence) (λ i has. has) (λ i has. has) never)
      (λ met is.
      in_turn rows account (Code ask) 12 18 18 (value_for rows table ask.want) _
      (value_check rows account (Code ask) table never never ask.want (λ v is. (v, is))
      (λ is. is) (λ p is gone. (p, is, gone)) (λ is. is))
      (λ v chosen. passes rows account (Code ask) 18 18 _ (λ clear. clear) _ refl)))
  fair (Early ask) =
      by_policy (Early ask) ask.want refl _ (λ table policy there decides.
      in_turn rows account (Early ask) 10 12 18
      (is_met_early (first_item (early_unmet policy ask.evidence))) _
      (early_check rows account (Early ask) ask.want table refl there policy decides
      (early_unmet policy ask.evidence) (λ i has. has) (λ i has. has)
      (not_eligible policy ask.evidence) (first_not_eligible policy ask.evidence))
      (λ met is.
      in_turn rows account (Early ask) 12 18 18 (value_for rows table ask.want) _
      (value_check rows account (Early ask) table never never ask.want (λ v is. (v, is))
      (λ is. is) (λ p is gone. (p, is, gone)) (λ is. is))
      (λ v chosen. passes rows account (Early ask) 18 18 _ (λ clear. clear) _ refl)))
  fair (Renew ask) =
      by_policy (Renew ask) (Value ask.value) refl _ (λ table policy there decides.
      in_turn rows account (Renew ask) 10 12 18
      (is_met_early (first_item (early_unmet policy ask.evidence))) _
      (early_check rows account (Renew ask) (Value ask.value) table refl there policy decides
      (early_unmet policy ask.evidence) (λ i has. has) (λ i has. has)
      (not_eligible policy ask.evidence) (first_not_eligible policy ask.evidence))
      (λ met is.
      in_turn rows account (Renew ask) 12 13 18 (own_entry account rows.entry) _
      (own_check rows account (Renew ask) tt)
      (λ own owned.
      in_turn rows account (Renew ask) 13 18 18 (may_renew (renewable own.term (is_some ask.iesg))) _
      (renewal_check rows account (Renew ask) tt own (own_is account rows.entry own owned).0
      never never ask.iesg (λ none. none) (λ none. none))
      (λ may renews. passes rows account (Renew ask) 18 18 _ (λ clear. clear) _ refl))))
  fair (Permanent ask) =
      by_policy (Permanent ask) (Value ask.value) refl _ (λ table policy there decides.
      in_turn rows account (Permanent ask) 10 12 18
      (is_met (first_item (unmet policy ask.evidence))) _
      (evidence_check rows account (Permanent ask) (Value ask.value) table refl there policy decides
      (unmet policy ask.evidence) (λ i has. has) (λ i has. has) never)
      (λ met is.
      in_turn rows account (Permanent ask) 12 13 18 (own_entry account rows.entry) _
      (own_check rows account (Permanent ask) tt)
      (λ own owned.
      in_turn rows account (Permanent ask) 13 18 18 (may_settle (settleable own.term)) _
      (settlement_check rows account (Permanent ask) tt own
      (own_is account rows.entry own owned).0 never never never)
      (λ may settles. passes rows account (Permanent ask) 18 18 _ (λ clear. clear) _ refl))))
  fair (Block ask) =
      in_turn rows account (Block ask) 7 18 18 (or_refusal no.Exhausted rows.due) _
      (by rows.due refl)
      (λ block due. passes rows account (Block ask) 18 18 _ (λ clear. clear) _ refl)
    where
      -- one for a block is refused for nothing else
      alone : (m : ℕ) → m ≤ 17 → (other : Refusal) → Applies rows account (Block ask) other
          → 7 ≤ line_of other → line_of other < m → ⊥
      alone m below no.Registry applies low high = let wanted = applies.0 in absurd (cc)
      alone m below no.Range applies low high = of_none IsAbove rows.table applies
      alone m below no.Policy applies low high = of_none IsShut rows.table applies
      alone m below no.Early applies low high =
          of_none (UnderPolicy (IsNotEarly (Block ask))) rows.table applies
      alone m below (no.Evidence i) applies low high =
          of_none (UnderPolicy (Lacks (Block ask) i)) rows.table applies
      alone m below other applies low high = grind arith

      free : (block : SizedPrefix) → rows.due ≡ Some block → (other : Refusal)
          → Applies rows account (Block ask) other → 17 ≤ line_of other → line_of other < 18 → ⊥
      free block due no.Exhausted applies low high = let both = sym due ∙ applies in absurd (cc)
      free block due other applies low high = omega arith

      by : (o : Option SizedPrefix) → rows.due ≡ o
          → IsFair rows account (Block ask) 7 18 (or_refusal no.Exhausted o)
      by None gone =
          refuses rows account (Block ask) 7 18 no.Exhausted gone
          (clear_on rows account (Block ask) 7 17 (alone 17 (omega arith))) _ refl
      by (Some block) due =
          passes rows account (Block ask) 7 18 block
          (λ clear. clear_on rows account (Block ask) 17 18 (free block due)
          (clear_on rows account (Block ask) 7 17 (alone 17 (omega arith)) clear)) _ refl

pub first_refusals : FirstRefusalsAreAnswered
first_refusals = record {
  refused = λ rows account ask refusal h.
      let is = (fair rows account ask).refused refusal h in
      record { applies = is.0; first = is.1 (outset rows account ask) };
  allowed = λ rows account ask allowance h.
      over rows account ask ((fair rows account ask).passed allowance h (outset rows account ask));
}
