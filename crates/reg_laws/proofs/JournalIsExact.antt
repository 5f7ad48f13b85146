-- The journal has each change of a run once, signed and in order, and keeps what it has.
use Rattle.std.proofs.Common.{◌≡◌, ℕ, Bool, true, List, [], ◌∷◌, ◌++◌, filter, refl, sym, ap, ◌∙◌, append_assoc}
use Rattle.std.specs.Prelude.{Option, Some, None, IsSome, Contains}
use Rattle.std.specs.List.{list_any}
use Rattle.std.specs.FinMap.{get}
use Rattle.reg_core.proofs.Common.{change_of, answer_to, cap_at, carried, stamp_in, stamp_of, acts_if}
use Rattle.reg_core.proofs.Common.{with_acts, stages, step_of, World}
use Rattle.reg_laws.proofs.Types.{Act, Cap, CapRow, Change, Declined, Deed, Withdrawn}
use Rattle.reg_core.proofs.Common.{Contains-map, cap_list, cap_row, same_text}
use Rattle.std.proofs.lemmas.List.Elements.{All-contains}
use Rattle.reg_core.specs.Journal.{marked, row_went, went}
use Rattle.reg_core.specs.JournalLaws.{acts_in, JournalIsExact, JournalStays, LeavesOne, IsSigned, ChangesAreSigned}
use Rattle.reg_core.specs.Names.{first_digits}
use Rattle.reg_core.specs.declared.capability.Kind.{Kind}
use Rattle.reg_core.specs.declared.change.Change.TheVariants.{Revoke, RevokeAll, Close, SetPrivate}
use Rattle.reg_core.specs.declared.journal.Deed.TheVariants as did
use Rattle.reg_core.proofs.Outcomes.Accepted.{Serves}
use Rattle.reg_core.proofs.Outcomes.Dues.{Due, changes_due}
use Rattle.reg_laws.proofs.Capabilities.{passing}
use Rattle.reg_laws.proofs.Outcomes.ClerkLists.{cap_list_whole}

-- ---- Exactness

-- acts after acts
after_acts : (first more journal : List Act)
    → with_acts more (with_acts first journal) ≡ with_acts (first ++ more) journal
after_acts [] more journal = refl
after_acts (act ∷ first) more journal = after_acts first more (act ∷ journal)

-- a step has the acts of its change, if it makes one, before what was there
one_step : (w : World) (caller : Option (List ℕ)) (moment : ℕ) (made : Option Change)
    → (carried w caller moment made).journal
    ≡ with_acts (acts_if (stamp_in w caller moment) w made) w.journal
one_step w caller moment None = refl
one_step w caller moment (Some change) = refl

pub exact : (digest_of : List ℕ → List ℕ) → JournalIsExact digest_of
exact digest_of w [] = refl
exact digest_of w (e ∷ events) =
    let v = (step_of digest_of w e).world in
    let made = change_of (answer_to digest_of w e.caller e.moment e.command) in
    let rest = acts_in (stages digest_of v events) in
    exact digest_of v events
    ∙ ap (with_acts rest) (one_step w e.caller e.moment made)
    ∙ after_acts (acts_if (stamp_in w e.caller e.moment) w made) rest w.journal

-- ---- What it has stays

before_acts : (acts journal : List Act)
    → (more : List Act) × (with_acts acts journal ≡ more ++ journal)
before_acts [] journal = ([], refl)
before_acts (act ∷ acts) journal =
    let rest = before_acts acts (act ∷ journal) in
    (rest.0 ++ act ∷ [], rest.1 ∙ sym (append_assoc rest.0 (act ∷ []) journal))

pub stay : (digest_of : List ℕ → List ℕ) → JournalStays digest_of
stay digest_of w events =
    let more = before_acts (acts_in (stages digest_of w events)) w.journal in
    (more.0, exact digest_of w events ∙ more.1)

-- ---- Who signs, and what is left

module _ (w : World) (caller : Option (List ℕ)) (moment : ℕ) where
  -- the caller has a capability
  abbrev HasCap : Type 0
  HasCap = (cap : Cap) × (cap_at w caller ≡ Some cap)

  served : {kind : Kind} → Serves w caller moment kind → HasCap
  served by = (by.cap, by.is_there)

  signer : (change : Change) → Due w caller moment change → HasCap
  signer (Close account reference (Declined reason)) due = served due.1.serves
  signer (Close account reference Withdrawn) due = served due.1.serves
  signer (Close account reference state) due = absurd due.1
  signer (SetPrivate block private) due = served due.serves
  signer change due = served due.0.serves

  one_went : (digest : List ℕ) (existing : Option Cap) → IsSome existing
      → (deed : Deed) × (went digest existing ≡ deed ∷ [])
  one_went digest None there = absurd (cc)
  one_went digest (Some cap) there = (did.Revoke cap.account (first_digits digest), refl)

  leaves : (change : Change) → Due w caller moment change → LeavesOne w change
  leaves (Revoke digest) due = one_went digest (get w.caps digest) due.1.1
  leaves (RevokeAll digests) due = λ digest cap is_there among.
      let test : CapRow → Bool = λ row. list_any (same_text row.digest) digests in
      let rows = cap_list w.caps in
      let gone = All-contains (λ (row : CapRow). test row ≡ true → Contains (filter test rows) row)
      rows (cap_row digest cap) (passing test rows)
      ((cap_list_whole w).every digest cap is_there) among in
      Contains-map row_went (filter test rows) (cap_row digest cap) gone
  leaves (SetPrivate block private) due =
      (did.Private due.holder.account block private, ap (marked block private) due.is_there)
  leaves change due = (_, refl)

  -- a capability is at a digest
  signed_by : (who : Option (List ℕ)) (cap : Cap) → caller ≡ who → cap_at w who ≡ Some cap
      → (change : Change) → LeavesOne w change → IsSigned w caller moment change
  signed_by None cap by has change one = absurd (cc)
  signed_by (Some digest) cap by has change one = record {
    digest = digest;
    by = by;
    cap = cap;
    has = has;
    stamp =
        ap (λ who. stamp_in w who moment) by
        ∙ ap (λ cap. stamp_of (Some digest) cap moment) has;
    one = one;
  }

pub changes_signed : (digest_of : List ℕ → List ℕ) → ChangesAreSigned digest_of
changes_signed digest_of w caller moment command change made =
    let due = (changes_due digest_of w caller moment command change made).due in
    let by = signer w caller moment change due in
    signed_by w caller moment caller by.0 refl by.1 change (leaves w caller moment change due)
