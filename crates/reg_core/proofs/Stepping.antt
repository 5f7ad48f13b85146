-- What a step looks up: the caller's capability, and its own requests.
use Rattle.std.proofs.Common.{◌≡◌, ℕ, Bool, true, false, List, refl, ap, ◌∙◌}
use Rattle.reg_core.proofs.Common.{get-chosen, bytes_eq-Decides, get, same_text, only_if, get-select}
use Rattle.reg_core.proofs.Common.{admitted, same_kind, requests_of, World, RequestName, Cap, Kind, Case}
use Rattle.reg_core.proofs.Common.{name_keys, same_text-itself}
use Rattle.std.specs.Prelude.{Option, Some, None, Ok, Err, option_and_then, nat_le, if◌then◌else◌}
use Rattle.reg_core.specs.declared.refusal.Refusal.TheVariants as no

-- among an account's own requests each of the account's is found under its name
pub own_request : (account : List ℕ) (reference : List ℕ) (w : World)
    → get (requests_of account w) (account, reference) ≡ get w.requests (account, reference)
own_request account reference w =
    get-select name_keys _ w.requests (account, reference)
    ∙ elim (get w.requests (account, reference)) as
    (λ o. option_and_then (λ case. only_if (same_text account account) case) o ≡ o) [
      | None ↦ refl
      | Some case ↦ ap (λ b. only_if b case) (same_text-itself account)
    ]

-- an account's own row is a row of the world, and the account's
pub own_row_found : (account : List ℕ) (w : World) (name : RequestName) (case : Case)
    → get (requests_of account w) name ≡ Some case
    → (get w.requests name ≡ Some case) × (name.0 ≡ account)
own_row_found account w name case is_there =
    let is = get-chosen name_keys (λ name case. same_text name.0 account) w.requests name case
    is_there in
    (is.0, (bytes_eq-Decides name.0 account).0 is.1)

-- the capability by which a command is admitted is the one that was found, still valid and of the
-- kind
pub admitted-ok : (existing : Option Cap) (moment : ℕ) (kind : Kind) (cap : Cap)
    → admitted existing moment kind ≡ Ok cap
    → (existing ≡ Some cap) × (nat_le cap.until moment ≡ false) × (same_kind cap.kind kind ≡ true)
admitted-ok None moment kind cap h = absurd (cc)
admitted-ok (Some old) moment kind cap h =
    from (nat_le old.until moment) (same_kind old.kind kind) refl refl h
  where
    from : (late same : Bool) → nat_le old.until moment ≡ late → same_kind old.kind kind ≡ same
        → (if late then Err no.Token else if same then Ok old else Err no.Kind) ≡ Ok cap
        → (Some old ≡ Some cap) × (nat_le cap.until moment ≡ false)
        × (same_kind cap.kind kind ≡ true)
    from true same l s e = absurd (cc)
    from false false l s e = absurd (cc)
    from false true l s e = let is : old ≡ cap = cc in rw (← is) (refl, l, s)
