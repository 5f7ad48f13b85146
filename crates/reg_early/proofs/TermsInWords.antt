-- What terms are, in words of days and dates.
use Rattle.std.proofs.Common.{◌≡◌, ◌↔◌, inl, inr, ℕ, ◌<◌, ◌≤◌, max, Bool, true, false, refl, ap, ◌∙◌, arith}
use Rattle.std.proofs.lemmas.Bool.Decides.{nat_tests}
use Rattle.std.specs.Prelude.{Option, Some, None, Result, Ok, Err, IsSome, is_some, option_map, ◌&&◌, not, if◌then◌else◌}
use Rattle.reg_early.specs.Calendar.{IsDay, year_after}
use Rattle.reg_early.specs.Laws.{IsRenewedFrom, MayGoOn}
use Rattle.reg_early.specs.Terms.{status_until, status_on, is_spent, renewed_term, renewal, renewable, settled_term, settlement, settleable}
use Rattle.reg_early.specs.declared.term.Term.{Term}
use Rattle.reg_early.specs.declared.term.Status.TheVariants as status
use Rattle.reg_early.specs.declared.term.RenewFault.{RenewFault}
use Rattle.reg_early.specs.declared.term.RenewFault.TheVariants as renew_fault
use Rattle.reg_early.specs.declared.term.SettleFault.{SettleFault}
use Rattle.reg_early.specs.declared.term.SettleFault.TheVariants as settle_fault
use Rattle.reg_early.proofs.YearAfter.{IsYearAfter-year_after}

-- ---- Statuses

before_expiry : (held : Bool) (expiry day : ℕ) → day < expiry
    → status_until held (Some expiry) day ≡ status.Temporary
before_expiry true expiry day h = refl
before_expiry false expiry day h = grind (arith, nat_tests)

from_expiry : (expiry day : ℕ) → expiry ≤ day
    → status_until false (Some expiry) day ≡ status.Expired
from_expiry expiry day h = grind (arith, nat_tests)

pub assigned : (term : Term) (day : ℕ) → term.expires ≡ None → status_on term day ≡ status.Assigned
assigned term day is = ap (λ e. status_until term.held e day) is

pub temporary : (term : Term) (expiry day : ℕ) → term.expires ≡ Some expiry → day < expiry
    → status_on term day ≡ status.Temporary
temporary term expiry day is h =
    ap (λ e. status_until term.held e day) is ∙ before_expiry term.held expiry day h

pub held : (term : Term) (expiry day : ℕ) → term.expires ≡ Some expiry → term.held ≡ true
    → status_on term day ≡ status.Temporary
held term expiry day is mark =
    ap (λ e. status_until term.held e day) is ∙ ap (λ b. status_until b (Some expiry) day) mark

pub expired : (term : Term) (expiry day : ℕ) → term.expires ≡ Some expiry → term.held ≡ false
    → expiry ≤ day → status_on term day ≡ status.Expired
expired term expiry day is unheld h =
    ap (λ e. status_until term.held e day) is ∙ ap (λ b. status_until b (Some expiry) day) unheld
    ∙ from_expiry expiry day h

-- ---- Renewals

-- what a term with this expiry, spent or not, is renewed to
abbrev renewal_by : Term → ℕ → Option ℕ → Bool → Result Term RenewFault
renewal_by term today expires spent =
    if is_some expires then (if spent then Err renew_fault.Renewed
    else Ok (record term {
      expires = option_map (λ expiry. year_after (max expiry today)) expires;
      renewed = true;
    })) else Err renew_fault.Permanent

pub not_permanent : (term : Term) (today : ℕ) (iesg : Bool) → term.expires ≡ None
    → renewal term today iesg ≡ Err renew_fault.Permanent
not_permanent term today iesg is = ap (λ e. renewal_by term today e (is_spent term iesg)) is

pub not_again : (term : Term) (today : ℕ) → IsSome term.expires → term.renewed ≡ true
    → renewal term today false ≡ Err renew_fault.Renewed
not_again term today expires renewed =
    ap (λ b. if b then (if is_spent term false then Err renew_fault.Renewed
    else Ok (renewed_term term today)) else Err renew_fault.Permanent) expires
    ∙ ap (λ b. if b && true then Err renew_fault.Renewed else Ok (renewed_term term today)) renewed

not_spent : (term : Term) (iesg : Bool) → MayGoOn term iesg → is_spent term iesg ≡ false
not_spent term iesg (inl fresh) = ap (λ b. b && not iesg) fresh
not_spent term iesg (inr minuted) = by term.renewed
  where
    by : (renewed : Bool) → (renewed && not iesg) ≡ false
    by true = ap not minuted
    by false = refl

module _ (term : Term) (expiry today : ℕ) (iesg : Bool) (is : term.expires ≡ Some expiry)
    (goes_on : MayGoOn term iesg) where
  renewed_from : (day : ℕ) → IsDay day → max expiry today ≡ day
      → (now : Term) × (renewal term today iesg ≡ Ok now) × IsRenewedFrom day term now
  renewed_from day h latest = (
    record term { expires = Some (year_after day); renewed = true },
    ap (λ e. renewal_by term today e (is_spent term iesg)) is
        ∙ ap (renewal_by term today (Some expiry)) (not_spent term iesg goes_on)
        ∙ ap (λ d. Ok (record term { expires = Some (year_after d); renewed = true })) latest,
    (year_after day, IsYearAfter-year_after day h, refl),
  )

  pub in_time : IsDay expiry → today ≤ expiry
      → (now : Term) × (renewal term today iesg ≡ Ok now) × IsRenewedFrom expiry term now
  in_time h low = renewed_from expiry h (omega arith)

  pub late : IsDay today → expiry ≤ today
      → (now : Term) × (renewal term today iesg ≡ Ok now) × IsRenewedFrom today term now
  late h low = renewed_from today h (omega arith)

abbrev nothing : Unit {0}
nothing = tt

pub known_renewal : (term : Term) (today : ℕ) (iesg : Bool) (fault : RenewFault)
    → (renewable term iesg ≡ Err fault) ↔ (renewal term today iesg ≡ Err fault)
known_renewal term today iesg fault = by (is_some term.expires) (is_spent term iesg)
  where
    by : (expires spent : Bool)
        → ((if expires then (if spent then Err renew_fault.Renewed else Ok nothing)
        else Err renew_fault.Permanent) ≡ Err fault)
        ↔ ((if expires then (if spent then Err renew_fault.Renewed
        else Ok (renewed_term term today)) else Err renew_fault.Permanent) ≡ Err fault)
    by true true = (λ h. cc, λ h. cc)
    by true false = (λ h. absurd (cc), λ h. absurd (cc))
    by false spent = (λ h. cc, λ h. cc)

-- ---- Settlements

pub not_settled : (term : Term) → term.expires ≡ None → settlement term ≡ Err settle_fault.Permanent
not_settled term is =
    ap (λ e. if is_some e then Ok (settled_term term) else Err settle_fault.Permanent) is

pub settled : (term : Term) → IsSome term.expires
    → settlement term ≡ Ok (record term { expires = None; held = false })
settled term expires =
    ap (λ b. if b then Ok (settled_term term) else Err settle_fault.Permanent) expires

pub known_settlement : (term : Term) (fault : SettleFault)
    → (settleable term ≡ Err fault) ↔ (settlement term ≡ Err fault)
known_settlement term fault = by (is_some term.expires)
  where
    by : (expires : Bool)
        → ((if expires then Ok nothing else Err settle_fault.Permanent) ≡ Err fault)
        ↔ ((if expires then Ok (settled_term term) else Err settle_fault.Permanent) ≡ Err fault)
    by true = (λ h. absurd (cc), λ h. absurd (cc))
    by false = (λ h. cc, λ h. cc)
