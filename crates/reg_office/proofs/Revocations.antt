-- Capabilities that are taken away, and the clerk's that is left.
use Rattle.std.proofs.Common.{◌≡◌, ◌&&◌, ℕ, Bool, true, false, not, cond, List, [], ◌∷◌, map}
use Rattle.std.proofs.Common.{refl, sym, ap, subst, ◌∙◌, length, arith, Some, None}
use Rattle.std.specs.Prelude.{◌||◌, if◌then◌else◌, filter, nat_lt, Result, Ok, Err, IfErr, IsErrAnd}
use Rattle.std.specs.FinMap.{FinMap, entries, get, get-remove, remove}
use Rattle.std.specs.List.{AllByRecursion, list_any}
use Rattle.std.specs.Ordering.{eq_by_cmp}
use Rattle.std.proofs.lemmas.Bool.Decides.{nat_tests}
use Rattle.std.proofs.lemmas.List.Elements.{All-map, recursion_from_All}
use Rattle.std.proofs.lemmas.Bool.{and_parts, not-true}
use Rattle.reg_maps.specs.Maps.{text_cmp}
use Rattle.reg_maps.proofs.MapLaws.{All-entries, text_keys, tied}
use Rattle.reg_core.specs.Capability.{same_kind}
use Rattle.reg_core.specs.World.{World, without}
use Rattle.reg_core.specs.declared.capability.Cap.{Cap}
use Rattle.reg_core.specs.declared.capability.Kind.{Kind}
use Rattle.reg_core.specs.declared.capability.Kind.TheVariants.{Applicant, Expert, Clerk}
use Rattle.reg_keeper.specs.Keeper.{MayFault}
use Rattle.reg_core.specs.CapRows.{cap_row, cap_rows}
use Rattle.reg_core.specs.declared.capability.CapRow.{CapRow}
use Rattle.reg_office.specs.Revocation.{HasClerkAt, IsRefusedSo, MayRevoke, is_chosen, is_clerk_at}
use Rattle.reg_office.specs.Revocation.{leaves_clerk, may_take, revoked, taken, taken_of}
use Rattle.reg_office.specs.declared.revocation.Choice.{Choice}
use Rattle.reg_office.specs.declared.revocation.RevokeFault.{RevokeFault}
use Rattle.reg_office.specs.declared.revocation.RevokeFault.TheVariants as no

-- ---- What is left

-- no row is at a digest
abbrev AreElsewhere : List ℕ → List CapRow → Type 0
AreElsewhere digest rows = AllByRecursion (λ r. eq_by_cmp text_cmp digest r.digest ≡ false) rows

-- then what is there stays
stays_there : (rows : List CapRow) (caps : FinMap text_cmp Cap) (digest : List ℕ)
    → AreElsewhere digest rows
    → get (without (map (λ row. row.digest) rows) caps) digest ≡ get caps digest
stays_there [] caps digest none = refl
stays_there (row ∷ rows) caps digest none =
    stays_there rows (remove caps row.digest) digest none.1
    ∙ get-remove text_keys.total caps row.digest digest
    ∙ ap (λ b. cond b None (get caps digest)) none.0

-- each row is at its digest
abbrev AreRowsOf : FinMap text_cmp Cap → List CapRow → Type 0
AreRowsOf caps rows = AllByRecursion (λ r. get caps r.digest ≡ Some r.cap) rows

are_rows : (caps : FinMap text_cmp Cap) → AreRowsOf caps (cap_rows caps)
are_rows caps =
    recursion_from_All (λ r. get caps r.digest ≡ Some r.cap) (cap_rows caps)
    (All-map (λ r. get caps r.digest ≡ Some r.cap) (λ e. cap_row e.0 e.1) (entries caps)
    (All-entries text_keys.total (λ e. get caps e.0 ≡ Some e.1) caps (λ k x is. is)))

-- what passes is a row of the map
passing : (caps : FinMap text_cmp Cap) (test : CapRow → Bool) (rows : List CapRow)
    → AreRowsOf caps rows → list_any test rows ≡ true
    → (r : CapRow) × (test r ≡ true) × (get caps r.digest ≡ Some r.cap)
passing caps test [] are any = absurd (cc)
passing caps test (x ∷ xs) are any =
    elim (test x) as
    (λ b. test x ≡ b → (b || list_any test xs) ≡ true
    → (r : CapRow) × (test r ≡ true) × (get caps r.digest ≡ Some r.cap)) [
      | true ↦ λ is h. (x, is, are.0)
      | false ↦ λ is h. passing caps test xs are.1 h
    ] refl any

-- two rows of the map at one digest are one
one_row : (caps : FinMap text_cmp Cap) (a b : CapRow) → get caps a.digest ≡ Some a.cap
    → get caps b.digest ≡ Some b.cap → a.digest ≡ b.digest → a ≡ b
one_row caps a b at_a at_b same =
    let caps_same : a.cap ≡ b.cap = cc in
    λ i. record { digest = same i; cap = caps_same i }

-- the rows that pass a test are not at the digest of one that fails it
elsewhere : (caps : FinMap text_cmp Cap) (test : CapRow → Bool) (r : CapRow)
    → get caps r.digest ≡ Some r.cap → test r ≡ false → (rows : List CapRow)
    → AreRowsOf caps rows → AreElsewhere r.digest (filter test rows)
elsewhere caps test r at fails [] are = tt
elsewhere caps test r at fails (x ∷ xs) are =
    elim (test x) as
    (λ b. test x ≡ b → AreElsewhere r.digest (cond b (x ∷ filter test xs) (filter test xs))) [
      | true ↦ λ passes. (apart passes, elsewhere caps test r at fails xs are.1)
      | false ↦ λ passes. elsewhere caps test r at fails xs are.1
    ] refl
  where
    apart : test x ≡ true → eq_by_cmp text_cmp r.digest x.digest ≡ false
    apart passes =
        elim (eq_by_cmp text_cmp r.digest x.digest) as
        (λ b. eq_by_cmp text_cmp r.digest x.digest ≡ b → b ≡ false) [
          | true ↦ λ t.
              let same : r ≡ x = one_row caps r x at are.0 (tied text_keys r.digest x.digest t) in
              let no : test x ≡ false = ap test (sym same) ∙ fails in
              absurd (cc)
          | false ↦ λ t. refl
        ] refl

clerks : (kind : Kind) → same_kind kind Clerk ≡ true → kind ≡ Clerk
clerks Applicant h = absurd (cc)
clerks Expert h = absurd (cc)
clerks Clerk h = refl

-- a valid capability of a clerk is left where one that is not chosen is there before
pub clerk_left : (moment : ℕ) (choice : Choice) (w : World)
    → leaves_clerk moment choice (cap_rows w.caps) ≡ true
    → HasClerkAt moment (revoked moment (filter (is_chosen choice) (cap_rows w.caps)) w)
clerk_left moment choice w left =
    let found = passing w.caps (λ row. not (is_chosen choice row) && is_clerk_at moment row.cap)
    (cap_rows w.caps) (are_rows w.caps) left in
    let r = found.0 in
    let parts = and_parts (not (is_chosen choice r)) (is_clerk_at moment r.cap) found.1 in
    let stands = and_parts (same_kind r.cap.kind Clerk) (nat_lt moment r.cap.until) parts.1 in
    let other = not-true (is_chosen choice r) parts.0 in (
      r.digest,
      r.cap,
      stays_there (filter (is_chosen choice) (cap_rows w.caps)) w.caps r.digest
          (elsewhere w.caps (is_chosen choice) r found.2 other (cap_rows w.caps)
          (are_rows w.caps))
          ∙ found.2,
      clerks r.cap.kind stands.0,
      grind (arith, nat_tests, stands.1),
    )

-- ---- What is taken

-- what is taken is what was chosen, and a clerk's is left
taken_says : (moment : ℕ) (choice : Choice) (rows chosen : List CapRow)
    → taken_of moment choice rows ≡ Ok chosen
    → (chosen ≡ filter (is_chosen choice) rows) × (leaves_clerk moment choice rows ≡ true)
taken_says moment choice rows chosen is =
    elim (may_take choice (length (filter (is_chosen choice) rows))) as
    (λ b. (if b then
    (if leaves_clerk moment choice rows then Ok (filter (is_chosen choice) rows) else Err no.Own)
    else Err no.Token) ≡ Ok chosen
    → (chosen ≡ filter (is_chosen choice) rows) × (leaves_clerk moment choice rows ≡ true)) [
      | true ↦ λ h.
          elim (leaves_clerk moment choice rows) as
          (λ left. leaves_clerk moment choice rows ≡ left
          → (if left then Ok (filter (is_chosen choice) rows) else Err no.Own) ≡ Ok chosen
          → (chosen ≡ filter (is_chosen choice) rows) × (leaves_clerk moment choice rows ≡ true)) [
            | true ↦ λ t h. (cc, t)
            | false ↦ λ t h. absurd (cc)
          ] refl h
      | false ↦ λ h. absurd (cc)
    ] is

-- so a clerk has a valid one afterwards
pub clerk_stays : (moment : ℕ) (choice : Choice) (w : World) (chosen : List CapRow)
    → taken moment choice w ≡ Ok chosen → HasClerkAt moment (revoked moment chosen w)
clerk_stays moment choice w chosen is =
    let says = taken_says moment choice (cap_rows w.caps) chosen is in
    subst (λ (rows : List CapRow). HasClerkAt moment (revoked moment rows w)) (sym says.0)
    (clerk_left moment choice w says.1)

-- a refusal, and want of memory, may always be
refused_may : (fails : Bool) (outcome : Result (List CapRow) RevokeFault) (fault : RevokeFault)
    → IsRefusedSo outcome fault → MayRevoke fails fault
refused_may fails outcome no.Token refused = tt
refused_may fails outcome no.Own refused = tt
refused_may fails outcome (no.Fault fault) memory = subst (MayFault fails) (sym memory) tt

pub may_revoke : {T : Type 0} (fails : Bool) (fault : RevokeFault)
    (outcome : Result (List CapRow) RevokeFault) (result : Result T RevokeFault)
    → IsRefusedSo outcome fault → IsErrAnd result (λ e. e ≡ fault) → IfErr result (MayRevoke fails)
may_revoke fails fault outcome (Ok x) refused err = tt
may_revoke fails fault outcome (Err e) refused is =
    subst (MayRevoke fails) (sym is) (refused_may fails outcome fault refused)
