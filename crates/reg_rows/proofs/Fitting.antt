-- What a change that fits has for the rows that it writes.
use Rattle.std.proofs.Common.{◌≡◌, Bool, true, false, not, ◌||◌, Option, Some, None, IsSome, is_some}
use Rattle.std.proofs.Common.{option_map, refl, sym, ap, subst, ◌∙◌, Result}
use Rattle.std.specs.FinMap.{FinMap, get}
use Rattle.std.specs.Ordering.{eq_by_cmp}
use Rattle.sqlite.specs.State.{State as Store}
use Rattle.reg_maps.specs.Maps.{update}
use Rattle.reg_maps.proofs.MapLaws.{get-updated, tied}
use Rattle.reg_core.specs.Entry.{with_hold}
use Rattle.reg_core.specs.WellKept.{WellKept}
use Rattle.reg_core.specs.World.{World, Place, RequestName, applied, in_state, name_cmp, with_state}
use Rattle.reg_core.specs.declared.change.Change.{Change}
use Rattle.reg_core.specs.declared.entry.Registration.{Registration}
use Rattle.reg_core.specs.declared.request.Case.{Case}
use Rattle.reg_core.specs.declared.request.State.{State}
use Rattle.reg_core.proofs.KeyOrders.{name_keys, place_keys}
use Rattle.reg_records.specs.Requests.Forms.{gives_its_kind}
use Rattle.reg_rows.specs.Calls.{Steps}
use Rattle.reg_rows.specs.Changing.{ChangeFits}
use Rattle.reg_rows.specs.Marks.{IsHeldSo}
use Rattle.reg_rows.proofs.Joining.{steps_as}
use Rattle.reg_records.proofs.RequestLaws.Kept.{stands_in-gives_its_kind}

-- a write whose premise the change implies, and that makes what the change does, makes the change
pub makes : {T E : Type 0} {a b : Store} {result : Result T E} {F : World → Type 0}
    {f : World → World} {change : Change} (is : Change) → change ≡ is → Steps a b result F f
    → ((w : World) → ChangeFits is w → F w × (f w ≡ applied w is))
    → Steps a b result (ChangeFits change) (λ w. applied w change)
makes {a = a} {b = b} {result = result} is same steps meets =
    subst (λ change. Steps a b result (ChangeFits change) (λ w. applied w change)) (sym same)
    (steps_as steps meets)

there : {X : Type 0} (o : Option X) → IsSome o → (x : X) × (o ≡ Some x)
there None h = absurd (cc)
there (Some x) h = (x, refl)

-- where it is of that kind, so it is of the request that is found by the name
pub can_have : (m : FinMap name_cmp Case) (name : RequestName) (state : State) (case : Case)
    → get m name ≡ Some case → gives_its_kind case.ask state ≡ true
    → (other : RequestName) (found : Case) → get m other ≡ Some found
    → eq_by_cmp name_cmp other name ≡ true → gives_its_kind found.ask state ≡ true
can_have m name state case there kind other found is same =
    let here : get m name ≡ Some found = ap (get m) (sym (tied name_keys other name same)) ∙ is in
    let one : found ≡ case = cc in
    ap (λ (case : Case). gives_its_kind case.ask state) one ∙ kind

-- the state of a request that leaves a world well kept is of its ask's kind
pub given_kind : (w after : World) (name : RequestName) (state : State)
    → IsSome (get w.requests name) → WellKept after
    → after.requests ≡ (with_state w name state).requests
    → (case : Case) × (get w.requests name ≡ Some case) × (gives_its_kind case.ask state ≡ true)
given_kind w after name state some kept same =
    let it = there (get w.requests name) some in
    let now : get after.requests name ≡ Some (in_state state it.0) =
    ap (λ m. get m name) same ∙ get-updated name_keys w.requests name (in_state state)
    ∙ ap (option_map (in_state state)) it.1 in (
      it.0,
      it.1,
      stands_in-gives_its_kind after.entries after.blocks name.0 it.0.ask state
          (kept.given name (in_state state it.0) now),
    )

-- an entry that is held expires
pub given_expires : (a : Registration) → (not a.term.held || is_some a.term.expires) ≡ true
    → a.term.held ≡ true → IsSome a.term.expires
given_expires a may held = ap (λ b. not b || is_some a.term.expires) (sym held) ∙ may

-- and so does one whose mark is turned
pub may_turn : (w : World) (place : Place) (held : Bool) → WellKept w
    → WellKept (record w { entries = update w.entries place (with_hold held) })
    → (a : Registration) × (get w.entries place ≡ Some a) × (a.term.held ≡ not held)
    → IsHeldSo (not held) place w
may_turn w place true kept after found = (
  found.0,
  found.1,
  found.2,
  after.held place (with_hold true found.0)
      (get-updated place_keys w.entries place (with_hold true)
      ∙ ap (option_map (with_hold true)) found.1),
)
may_turn w place false kept after found = (
  found.0,
  found.1,
  found.2,
  ap (λ b. not b || is_some found.0.term.expires) (sym found.2) ∙ kept.held place found.0 found.1,
)
