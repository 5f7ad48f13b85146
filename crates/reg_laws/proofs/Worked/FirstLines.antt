-- The first lines of an office, worked out. A token stands for its own digest here.
use Rattle.std.proofs.Common.{◌≡◌, ℕ, true, false, List, [], ◌∷◌, refl, sym, ap, ◌∙◌}
use Rattle.std.specs.Prelude.{Option, Some, None, codes, filter_map}
use Rattle.std.specs.FinMap as map
use Rattle.std.specs.FinMap.{get, entries, entries-insert, put, get-insert, get-empty, len-entries, len-empty}
use Rattle.std.specs.Ordering.{nat_cmp}
use Rattle.std.proofs.lemmas.List.{nil_from_length}
use Rattle.reg_core.proofs.Common.{text_cmp, keyed, same_text, only_if, number_keys, text_keys}
use Rattle.reg_core.proofs.Common.{get-inserted, entries-select, is_in_clock, clerk_cap, founded_world}
use Rattle.reg_core.proofs.Common.{Event, run, Stepped, step, requests_of, World, name_cmp, recorded, stamp_of}
use Rattle.reg_laws.proofs.Types.{Cap, Stamp}
use Rattle.reg_core.proofs.Common.{name_keys}
use Rattle.reg_laws.proofs.Types.{Command, Refusal, Told, Case, Accepted, Refused}
use Rattle.reg_core.specs.declared.capability.Kind.TheVariants.{Applicant}
use Rattle.reg_core.specs.declared.change.Change.TheVariants as change
use Rattle.reg_core.specs.declared.command.Command.TheVariants.{Public, Applicant, Clerk}
use Rattle.reg_core.specs.declared.command.ApplicantCommand.TheVariants.{Own}
use Rattle.reg_core.specs.declared.command.ClerkCommand.TheVariants.{AddPool, Grant, Revoke}
use Rattle.reg_core.specs.declared.command.PublicCommand.TheVariants.{PoolList}
use Rattle.reg_core.specs.declared.journal.Deed.TheVariants as did
use Rattle.reg_core.specs.declared.refusal.Refusal.TheVariants as no
use Rattle.reg_core.specs.declared.told.Told.TheVariants.{Rows, Pool, Pooled, Granted}

abbrev pub clerk : List ℕ
clerk = codes "clerk-token-00001"

abbrev pub alice : List ℕ
alice = codes "alice-token-00001"

abbrev pub alice_cap : Cap
alice_cap = record { account = codes "alice"; kind = Applicant; until = 1800000000 }

abbrev bob_cap : Cap
bob_cap = record alice_cap { account = codes "bob" }

-- by a token with this capability, at the moment of all lines; and by the clerk's
abbrev pub by : List ℕ → Cap → Stamp
by token cap = stamp_of (Some token) (Some cap) 1700000000

abbrev pub by_clerk : Stamp
by_clerk = by clerk clerk_cap

abbrev pub office : World
office = founded_world clerk

-- the office after the first grant
abbrev pub granted : World
granted = recorded by_clerk office (change.Grant alice alice_cap)

abbrev pub given : World → Option (List ℕ) → ℕ → Command → Stepped
given = step (λ token. token)

-- the world stays as it is after a refusal, and becomes this one after what the caller is told
abbrev pub stays : World → Refusal → Stepped
stays w refusal = record { reply = Refused refusal; world = w }

abbrev pub tells : World → Told → Stepped
tells w told = record { reply = Accepted told; world = w }

-- ---- What the maps have

office-clerk : get office.caps clerk ≡ Some clerk_cap
office-clerk = get-inserted text_keys map.empty clerk clerk_cap

office-alice : get office.caps alice ≡ None
office-alice =
    get-insert text_keys.total map.empty clerk clerk_cap alice ∙ get-empty text_cmp alice

pub granted-clerk : get granted.caps clerk ≡ Some clerk_cap
granted-clerk = get-insert text_keys.total office.caps alice alice_cap clerk ∙ office-clerk

granted-alice : get granted.caps alice ≡ Some alice_cap
granted-alice = get-inserted text_keys office.caps alice alice_cap

no_requests : entries (requests_of (codes "alice") granted) ≡ []
no_requests =
    let none = nil_from_length (entries granted.requests)
    (sym (len-entries granted.requests) ∙ len-empty name_cmp Case) in
    entries-select name_keys
    (λ name case. only_if (same_text name.0 (codes "alice")) case) granted.requests
    ∙ ap (filter_map (λ e. keyed e.0 (only_if (same_text e.0.0 (codes "alice")) e.1))) none

-- ---- The lines

without_a_token : given office None 1700000000 (Applicant Own) ≡ stays office no.Token
without_a_token = refl

first_grant : given office (Some clerk) 1700000000 (Clerk (Grant alice alice_cap))
    ≡ tells granted (Granted alice_cap)
first_grant = rw (office-clerk, office-alice) refl

empty_list : given granted (Some alice) 1700000000 (Applicant Own) ≡ tells granted (Rows [])
empty_list = rw (granted-alice, no_requests) refl

same_grant : given granted (Some clerk) 1700000000 (Clerk (Grant alice alice_cap))
    ≡ tells granted (Granted alice_cap)
same_grant = rw (granted-clerk, granted-alice) refl

other_grant : given granted (Some clerk) 1700000000 (Clerk (Grant alice bob_cap))
    ≡ stays granted no.Exists
other_grant = rw (granted-clerk, granted-alice) refl

last_second : given granted (Some alice) 1799999999 (Applicant Own) ≡ tells granted (Rows [])
last_second = rw (granted-alice, no_requests) refl

too_late : given granted (Some alice) 1800000000 (Applicant Own) ≡ stays granted no.Token
too_late = rw granted-alice refl

clerks_own_list : given granted (Some clerk) 1700000000 (Applicant Own) ≡ stays granted no.Kind
clerks_own_list = rw granted-clerk refl

grant_by_an_applicant : given granted (Some alice) 1700000000
    (Clerk (Grant (codes "other-token-00001") bob_cap)) ≡ stays granted no.Kind
grant_by_an_applicant = rw granted-alice refl

token_in_use : given granted (Some clerk) 1700000000 (Clerk (Revoke clerk)) ≡ stays granted no.Own
token_in_use = rw granted-clerk refl

clock : (is_in_clock 946684799 ≡ false) × (is_in_clock 946684800 ≡ true)
    × (is_in_clock 32503679999 ≡ true) × (is_in_clock 32503680000 ≡ false)
clock = (refl, refl, refl, refl)

-- outside those years every command of every caller is refused, whatever the world
closed : (w : World) (caller : Option (List ℕ)) (command : Command)
    → given w caller 946684799 command ≡ record { reply = Refused no.Clock; world = w }
closed w None (Clerk command) = refl
closed w (Some digest) (Clerk command) = refl
closed w caller command = refl

-- ---- The journal

-- the clerk's grant is signed, and before it stands the founding, which nobody signs
two_acts : granted.journal
    ≡ record {
      stamp = record {
        moment = Some 1700000000;
        by = Some (record { account = codes "clerk"; token = codes "clerk-token-" });
      };
      deed = did.Grant (codes "alice") (codes "alice-token-");
    }
    ∷ record {
      stamp = record { moment = None; by = None };
      deed = did.Grant (codes "clerk") (codes "clerk-token-");
    }
    ∷ []
two_acts = refl

-- ---- The pool

-- 00-1A-2B, and FC-00-00 after it
abbrev low : ℕ
low = 0x00_1A2B

abbrev high : ℕ
high = 0xFC_0000

-- the office after a prefix is added, and after one that is lower
abbrev pooled : World
pooled = recorded by_clerk office (change.AddPool high)

abbrev both_pooled : World
both_pooled = recorded by_clerk pooled (change.AddPool low)

no_prefix : (prefix : ℕ) → get office.pool prefix ≡ None
no_prefix prefix = get-empty nat_cmp prefix

pooled-high : get pooled.pool high ≡ Some tt
pooled-high = get-inserted number_keys office.pool high tt

pooled-low : get pooled.pool low ≡ None
pooled-low = get-insert number_keys.total office.pool high tt low ∙ no_prefix low

no_prefixes : entries office.pool ≡ []
no_prefixes =
    nil_from_length (entries office.pool) (sym (len-entries office.pool) ∙ len-empty nat_cmp (Unit {0}))

high_alone : entries pooled.pool ≡ (high, tt) ∷ []
high_alone =
    entries-insert number_keys.total office.pool high tt ∙ ap (put nat_cmp high tt) no_prefixes

low_and_high : entries both_pooled.pool ≡ (low, tt) ∷ (high, tt) ∷ []
low_and_high =
    entries-insert number_keys.total pooled.pool low tt ∙ ap (put nat_cmp low tt) high_alone

empty_pool : given office None 1700000000 (Public PoolList) ≡ tells office (Pool [])
empty_pool = rw no_prefixes refl

first_prefix : given office (Some clerk) 1700000000 (Clerk (AddPool high))
    ≡ tells pooled (Pooled high)
first_prefix = rw (office-clerk, no_prefix high) refl

same_prefix : given pooled (Some clerk) 1700000000 (Clerk (AddPool high))
    ≡ tells pooled (Pooled high)
same_prefix = rw (office-clerk, pooled-high) refl

lower_prefix : given pooled (Some clerk) 1700000000 (Clerk (AddPool low))
    ≡ tells both_pooled (Pooled low)
lower_prefix = rw (office-clerk, pooled-low) refl

-- anybody is shown them ascending
full_pool : given both_pooled None 1700000000 (Public PoolList)
    ≡ tells both_pooled (Pool (low ∷ high ∷ []))
full_pool = rw low_and_high refl

-- 01-1A-2B has the I/G bit, 02-1A-2B the U/L bit, and 2^24 is no 24-bit number
group_prefix : given office (Some clerk) 1700000000 (Clerk (AddPool 0x01_1A2B))
    ≡ stays office no.Bits
group_prefix = rw office-clerk refl

local_prefix : given office (Some clerk) 1700000000 (Clerk (AddPool 0x02_1A2B))
    ≡ stays office no.Bits
local_prefix = rw office-clerk refl

long_prefix : given office (Some clerk) 1700000000 (Clerk (AddPool 0x100_0000))
    ≡ stays office no.Bits
long_prefix = rw office-clerk refl

prefix_by_an_applicant : given granted (Some alice) 1700000000 (Clerk (AddPool low))
    ≡ stays granted no.Kind
prefix_by_an_applicant = rw granted-alice refl

-- ---- The three lines of a new office in turn

abbrev at : Option (List ℕ) → Command → Event
at caller command = record { caller = caller; moment = 1700000000; command = command }

first_lines : run (λ token. token) office
    (at None (Applicant Own) ∷ at (Some clerk) (Clerk (Grant alice alice_cap)) ∷ at (Some alice)
    (Applicant Own) ∷ [])
    ≡ Refused no.Token ∷ Accepted (Granted alice_cap) ∷ Accepted (Rows []) ∷ []
first_lines =
    ap (λ (s : Stepped).
    Refused no.Token ∷ s.reply ∷ run (λ token. token) s.world
    (at (Some alice) (Applicant Own) ∷ [])) first_grant
    ∙ ap (λ (s : Stepped).
    Refused no.Token ∷ Accepted (Granted alice_cap) ∷ s.reply ∷ []) empty_list
