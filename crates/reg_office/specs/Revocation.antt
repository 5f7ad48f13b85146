-- Capabilities that are taken away without their tokens.
use Rattle.std.specs.Prelude.{◌≡◌, ◌<◌, ◌==◌, ◌&&◌, if◌then◌else◌, ℕ, Bool, not, nat_eq, nat_le, nat_lt}
use Rattle.std.specs.Prelude.{List, filter, map, length, Some, Result, Ok, Err}
use Rattle.std.specs.FinMap.{get}
use Rattle.std.specs.List.{list_any, starts_with}
use Rattle.reg_maps.specs.Maps.{same_text}
use Rattle.reg_core.specs.Capability.{same_kind}
use Rattle.reg_core.specs.Journal.{recorded}
use Rattle.reg_core.specs.World.{World}
use Rattle.reg_core.specs.declared.capability.Cap.{Cap}
use Rattle.reg_core.specs.declared.capability.Kind.TheVariants.{Clerk}
use Rattle.reg_core.specs.declared.change.Change.TheVariants.{RevokeAll}
use Rattle.reg_keeper.specs.Keeper.{MayFault}
use Rattle.reg_core.specs.CapRows.{cap_rows}
use Rattle.reg_keeper.specs.declared.keeper.Fault.TheVariants.{Memory}
use Rattle.reg_core.specs.declared.capability.CapRow.{CapRow}
use Rattle.reg_office.specs.Stamps.{job_stamp}
use Rattle.reg_office.specs.declared.revocation.Choice.{Choice}
use Rattle.reg_office.specs.declared.revocation.Choice.TheVariants.{Digits, Account}
use Rattle.reg_office.specs.declared.revocation.RevokeFault.{RevokeFault}
use Rattle.reg_office.specs.declared.revocation.RevokeFault.TheVariants as no

-- ---- What is chosen

-- the digest begins with the digits, or the account is the one
abbrev pub is_chosen : Choice → CapRow → Bool
is_chosen (Digits digits) row = starts_with nat_eq row.digest digits.now
is_chosen (Account account) row = same_text row.cap.account account.now

-- by digits, of which there are at least 8, just one; of an account at least one
abbrev pub may_take : Choice → ℕ → Bool
may_take (Digits digits) n = nat_le 8 (length digits.now) && n == 1
may_take (Account account) n = nat_lt 0 n

-- a clerk's, which is valid at a moment
abbrev pub is_clerk_at : ℕ → Cap → Bool
is_clerk_at moment cap = same_kind cap.kind Clerk && nat_lt moment cap.until

-- a valid one of a clerk is left
abbrev pub leaves_clerk : ℕ → Choice → List CapRow → Bool
leaves_clerk moment choice rows =
    list_any (λ row. not (is_chosen choice row) && is_clerk_at moment row.cap) rows

-- those of the rows that go at a moment, or why none goes
abbrev pub taken_of : ℕ → Choice → List CapRow → Result (List CapRow) RevokeFault
taken_of moment choice rows =
    let chosen = filter (is_chosen choice) rows in
    if may_take choice (length chosen) then
    (if leaves_clerk moment choice rows then Ok chosen else Err no.Own)
    else Err no.Token

abbrev pub taken : ℕ → Choice → World → Result (List CapRow) RevokeFault
taken moment choice w = taken_of moment choice (cap_rows w.caps)

-- ---- What becomes of the world

-- the world without these rows, which went at a moment
abbrev pub revoked : ℕ → List CapRow → World → World
revoked moment rows w = recorded (job_stamp moment) w (RevokeAll (map (λ row. row.digest) rows))

-- a clerk's capability is there, which is valid at a moment
abbrev pub HasClerkAt : ℕ → World → Type 0
HasClerkAt moment w =
    (digest : List ℕ) × (cap : Cap) × (get w.caps digest ≡ Some cap)
    × (cap.kind ≡ Clerk) × (moment < cap.until)

-- ---- Why nothing is taken

-- the rows that go are refused so, or there was no memory
abbrev pub IsRefusedSo : Result (List CapRow) RevokeFault → RevokeFault → Type 0
IsRefusedSo outcome no.Token = outcome ≡ Err no.Token
IsRefusedSo outcome no.Own = outcome ≡ Err no.Own
IsRefusedSo outcome (no.Fault fault) = fault ≡ Memory

abbrev pub IsCause : ℕ → Choice → World → RevokeFault → Type 0
IsCause moment choice w no.Token = taken moment choice w ≡ Err no.Token
IsCause moment choice w no.Own = taken moment choice w ≡ Err no.Own
IsCause moment choice w (no.Fault fault) = Unit {0}

-- which faults there may be
abbrev pub MayRevoke : Bool → RevokeFault → Type 0
MayRevoke fails no.Token = Unit {0}
MayRevoke fails no.Own = Unit {0}
MayRevoke fails (no.Fault fault) = MayFault fails fault
