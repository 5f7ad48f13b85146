-- A clerk takes capabilities away without their tokens, worked out. A token stands for its own digest
-- here.
use Rattle.std.proofs.Common.{◌≡◌, List, ℕ, [], ◌∷◌, refl, sym, ap, ◌∙◌, Some, codes}
use Rattle.std.specs.FinMap as map
use Rattle.std.specs.FinMap.{get, entries, entries-insert, put, get-insert, len-entries, len-empty}
use Rattle.std.proofs.lemmas.List.{nil_from_length}
use Rattle.reg_core.proofs.Common.{text_cmp, text_keys, cap_row, clerk_cap, World, recorded}
use Rattle.reg_laws.proofs.Types.{Cap}
use Rattle.reg_core.specs.declared.change.Change.TheVariants as change
use Rattle.reg_core.specs.declared.command.Command.TheVariants.{Clerk}
use Rattle.reg_core.specs.declared.command.ClerkCommand.TheVariants.{RevokeDigits, RevokeAccount}
use Rattle.reg_core.specs.declared.refusal.Refusal.TheVariants as no
use Rattle.reg_core.specs.declared.told.Told.TheVariants.{Capabilities}
use Rattle.reg_laws.proofs.Worked.FirstLines.{by_clerk, clerk, alice, alice_cap, office, granted, given, stays, tells, granted-clerk}

-- another token of the same account
abbrev other : List ℕ
other = codes "alice-token-00002"

-- the office after it is granted the same
abbrev twice : World
twice = recorded by_clerk granted (change.Grant other alice_cap)

twice-clerk : get twice.caps clerk ≡ Some clerk_cap
twice-clerk = get-insert text_keys.total granted.caps other alice_cap clerk ∙ granted-clerk

no_caps : entries (map.empty {X = Cap} {R = text_cmp}) ≡ []
no_caps =
    nil_from_length (entries map.empty) (sym (len-entries map.empty) ∙ len-empty text_cmp Cap)

one_cap : entries office.caps ≡ (clerk, clerk_cap) ∷ []
one_cap =
    entries-insert text_keys.total map.empty clerk clerk_cap
    ∙ ap (put text_cmp clerk clerk_cap) no_caps

two_caps : entries granted.caps ≡ (alice, alice_cap) ∷ (clerk, clerk_cap) ∷ []
two_caps =
    entries-insert text_keys.total office.caps alice alice_cap
    ∙ ap (put text_cmp alice alice_cap) one_cap

three_caps : entries twice.caps
    ≡ (alice, alice_cap) ∷ (other, alice_cap) ∷ (clerk, clerk_cap) ∷ []
three_caps =
    entries-insert text_keys.total granted.caps other alice_cap
    ∙ ap (put text_cmp other alice_cap) two_caps

one_by_digits : given twice (Some clerk) 1700000000
    (Clerk (RevokeDigits (codes "alice-token-00001")))
    ≡ tells (recorded by_clerk twice (change.Revoke alice))
    (Capabilities (cap_row alice alice_cap ∷ []))
one_by_digits = rw (twice-clerk, three_caps) refl

none_by_digits : given twice (Some clerk) 1700000000 (Clerk (RevokeDigits (codes "bob-token-0")))
    ≡ tells twice (Capabilities [])
none_by_digits = rw (twice-clerk, three_caps) refl

several_by_digits : given twice (Some clerk) 1700000000
    (Clerk (RevokeDigits (codes "alice-token-0"))) ≡ stays twice no.Several
several_by_digits = rw (twice-clerk, three_caps) refl

own_by_digits : given twice (Some clerk) 1700000000 (Clerk (RevokeDigits (codes "clerk-token-0")))
    ≡ stays twice no.Own
own_by_digits = rw (twice-clerk, three_caps) refl

-- the token in use is met before several are
own_of_several : given twice (Some clerk) 1700000000 (Clerk (RevokeDigits [])) ≡ stays twice no.Own
own_of_several = rw (twice-clerk, three_caps) refl

all_of_an_account : given twice (Some clerk) 1700000000 (Clerk (RevokeAccount (codes "alice")))
    ≡ tells (recorded by_clerk twice (change.RevokeAll (alice ∷ other ∷ [])))
    (Capabilities (cap_row alice alice_cap ∷ cap_row other alice_cap ∷ []))
all_of_an_account = rw (twice-clerk, three_caps) refl

none_of_an_account : given twice (Some clerk) 1700000000 (Clerk (RevokeAccount (codes "bob")))
    ≡ tells twice (Capabilities [])
none_of_an_account = rw (twice-clerk, three_caps) refl

own_account : given twice (Some clerk) 1700000000 (Clerk (RevokeAccount (codes "clerk")))
    ≡ stays twice no.Own
own_account = rw (twice-clerk, three_caps) refl
