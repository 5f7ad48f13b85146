-- When a request came and was decided, as the acts about it say.
use Rattle.std.proofs.Common.{◌≡◌, Bool, true, false, cond, List, [], ◌∷◌, ◌++◌, reverse, Some, None, refl, sym, ap, ◌∙◌}
use Rattle.std.specs.Prelude.{filter, find, option_and_then, if◌then◌else◌}
use Rattle.std.proofs.lemmas.List.{reverse-append}
use Rattle.reg_core.specs.Journal.{acts_in_order, deed_about, is_about, is_name_of}
use Rattle.reg_core.specs.Request.{is_pending}
use Rattle.reg_core.specs.Times.{decides, last_moment, submits}
use Rattle.reg_core.specs.World.{RequestName}
use Rattle.reg_core.specs.declared.journal.Act.{Act}
use Rattle.reg_core.specs.declared.journal.Deed.{Deed}
use Rattle.reg_core.specs.declared.journal.Deed.TheVariants.{Submit, Withdraw, Decline, GiveValue, GiveBlock}
use Rattle.reg_core.specs.declared.request.State.{State}
use Rattle.reg_core.specs.declared.request.State.TheVariants.{Pending, Approved, Declined, Withdrawn}

-- the acts of a journal that pass, read from behind
module _ (test : Act → Bool) where
  abbrev one : Act → List Act
  one act = if test act then act ∷ [] else []

  from_behind : (acts : List Act) → reverse (acts_in_order test acts) ≡ filter test acts
  from_behind [] = refl
  from_behind (act ∷ acts) =
      reverse-append (acts_in_order test acts) (one act)
      ∙ ap (λ rest. reverse (one act) ++ rest) (from_behind acts)
      ∙ by (test act)
    where
      by : (b : Bool) → reverse (if b then act ∷ [] else []) ++ filter test acts
          ≡ cond b (act ∷ filter test acts) (filter test acts)
      by true = refl
      by false = refl

-- only deeds about the request pass
abbrev IsOf : RequestName → (Deed → Bool) → Type 0
IsOf name test =
    (deed : Deed) → is_name_of name (deed_about deed) ≡ false → test deed ≡ false

pub submits_of : (name : RequestName) → IsOf name (submits name)
submits_of name (Submit account reference) other = other
submits_of name deed other = refl

pub decides_of : (name : RequestName) → IsOf name (decides name)
decides_of name (Withdraw account reference) other = other
decides_of name (Decline account reference) other = other
decides_of name (GiveValue account reference registry value) other = other
decides_of name (GiveBlock account reference block) other = other
decides_of name deed other = refl

-- so the last of them is the last of the acts about the request
module _ (name : RequestName) (test : Deed → Bool) (of : IsOf name test) where
  abbrev passes : Act → Bool
  passes act = test act.deed

  found : (acts : List Act) → find passes (filter (is_about name) acts) ≡ find passes acts
  found [] = refl
  found (act ∷ acts) = by (found acts) (is_about name act) refl
    where
      rest : List Act
      rest = filter (is_about name) acts

      by : find passes rest ≡ find passes acts → (b : Bool) → is_about name act ≡ b
          → find passes (cond b (act ∷ rest) rest)
          ≡ cond (test act.deed) (Some act) (find passes acts)
      by same true is = ap (λ o. cond (test act.deed) (Some act) o) same
      by same false is =
          same ∙ sym (ap (λ b. cond b (Some act) (find passes acts)) (of act.deed is))

  pub last_about : (acts : List Act)
      → last_moment test (reverse (acts_in_order (is_about name) acts)) ≡ last_moment test acts
  last_about acts =
      ap (option_and_then (λ (act : Act). act.stamp.moment))
      (ap (find passes) (from_behind (is_about name) acts) ∙ found acts)

-- a request that does not wait
pub waits_not : (state : State) → (state ≡ Pending → ⊥) → is_pending state ≡ false
waits_not Pending other = absurd (other refl)
waits_not (Approved given) other = refl
waits_not (Declined reason) other = refl
waits_not Withdrawn other = refl
