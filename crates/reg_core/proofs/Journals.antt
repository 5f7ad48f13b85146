-- What the journal leaves of a world as it is.
use Rattle.std.proofs.Common.{◌≡◌, ◌∙◌, ◌+◌, ◌++◌, ℕ, Bool, true, false, cond, List, [], ◌∷◌, map, filter, length, refl, sym, ap, arith, append-nil, append_assoc}
use Rattle.std.specs.Prelude.{Option, Some, None, if◌then◌else◌}
use Rattle.std.specs.FinMap.{FinMap, get}
use Rattle.reg_maps.specs.Maps.{text_cmp}
use Rattle.reg_blocks.specs.Block.{block_cmp}
use Rattle.reg_core.specs.Journal.{act_by, acts_in_order, caps_at, closed, deed_about, deeds_of, marked, recorded_if, row_went, went, with_acts}
use Rattle.reg_core.specs.Step.{carried}
use Rattle.reg_core.specs.World.{World, RequestName, applied, applied_if}
use Rattle.reg_core.specs.declared.capability.Cap.{Cap}
use Rattle.reg_core.specs.declared.capability.CapRow.{CapRow}
use Rattle.reg_core.specs.declared.change.Change.{Change}
use Rattle.reg_core.specs.declared.change.Change.TheVariants.{Revoke, RevokeAll, Close, SetPrivate}
use Rattle.reg_core.specs.declared.holding.Holder.{Holder}
use Rattle.reg_core.specs.declared.journal.Act.{Act}
use Rattle.reg_core.specs.declared.journal.Deed.{Deed}
use Rattle.reg_core.specs.declared.journal.Stamp.{Stamp}
use Rattle.reg_core.specs.declared.request.State.{State}
use Rattle.reg_core.specs.declared.request.State.TheVariants.{Declined}
use Rattle.reg_core.proofs.Outcomes.Dues.{change_about}

-- all but the journal is as the change leaves it
pub carried_is : (w : World) (caller : Option (List ℕ)) (moment : ℕ) (made : Option Change)
    → carried w caller moment made
    ≡ record (applied_if w made) { journal = (carried w caller moment made).journal }
carried_is w caller moment None = refl
carried_is w caller moment (Some change) = refl

-- acts add up
pub longer : (acts journal : List Act)
    → length (with_acts acts journal) ≡ length acts + length journal
longer [] journal = omega (arith)
longer (act ∷ acts) journal = omega (arith, longer acts (act ∷ journal))

-- what leaves the world as it is leaves it so whoever does it, and whenever
pub stays_by_any : (s t : Stamp) (w : World) (made : Option Change)
    → recorded_if s w made ≡ w → recorded_if t w made ≡ w
stays_by_any s t w None h = refl
stays_by_any s t w (Some change) h = by (deeds_of w.caps w.blocks change) h
  where
    after : Stamp → List Deed → World
    after by deeds =
        record (applied w change) { journal = with_acts (map (act_by by) deeds) w.journal }

    by : (deeds : List Deed) → after s deeds ≡ w → after t deeds ≡ w
    by [] h = h
    by (deed ∷ deeds) h =
        let same = ap (λ (v : World). length v.journal) h in
        absurd (omega (arith, same, longer (map (act_by s) (deed ∷ deeds)) w.journal))

-- ---- Lists of acts

-- the acts that come are listed behind those that were there
pub in_order-with : (test : Act → Bool) (acts journal : List Act)
    → acts_in_order test (with_acts acts journal)
    ≡ acts_in_order test journal ++ filter test acts
in_order-with test [] journal = sym (append-nil (acts_in_order test journal))
in_order-with test (act ∷ acts) journal =
    in_order-with test acts (act ∷ journal)
    ∙ append_assoc (acts_in_order test journal) (if test act then act ∷ [] else []) (filter test acts)
    ∙ ap (λ rest. acts_in_order test journal ++ rest) (by (test act))
  where
    by : (b : Bool) → (if b then act ∷ [] else []) ++ filter test acts
        ≡ cond b (act ∷ filter test acts) (filter test acts)
    by true = refl
    by false = refl

-- so those of a journal that is kept in order are those of it that pass
pub in_order-is : (test : Act → Bool) (acts : List Act)
    → acts_in_order test (with_acts acts []) ≡ filter test acts
in_order-is test acts = in_order-with test acts []

-- ---- What was done by a change

-- each was about this request, or about none
abbrev pub AreAbout : Option RequestName → List Deed → Type 0
AreAbout about [] = Unit {0}
AreAbout about (deed ∷ deeds) = (deed_about deed ≡ about) × AreAbout about deeds

-- what the change is about
pub deeds_about : (caps : FinMap text_cmp Cap) (blocks : FinMap block_cmp Holder) (change : Change)
    → AreAbout (change_about change) (deeds_of caps blocks change)
deeds_about caps blocks (Revoke digest) = of_cap (get caps digest)
  where
    of_cap : (existing : Option Cap) → AreAbout None (went digest existing)
    of_cap None = tt
    of_cap (Some cap) = (refl, tt)
deeds_about caps blocks (RevokeAll digests) = of_rows (caps_at digests caps)
  where
    of_rows : (rows : List CapRow) → AreAbout None (map row_went rows)
    of_rows [] = tt
    of_rows (row ∷ rows) = (refl, of_rows rows)
deeds_about caps blocks (Close account reference state) = of_state state
  where
    of_state : (state : State)
        → AreAbout (Some (account, reference)) (closed account reference state ∷ [])
    of_state (Declined reason) = (refl, tt)
    of_state state = (refl, tt)
deeds_about caps blocks (SetPrivate block private) = of_holder (get blocks block)
  where
    of_holder : (existing : Option Holder) → AreAbout None (marked block private existing)
    of_holder None = tt
    of_holder (Some holder) = (refl, tt)
deeds_about caps blocks change = (refl, tt)
